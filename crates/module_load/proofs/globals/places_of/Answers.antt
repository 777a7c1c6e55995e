use Rattle.std.proofs.Common.{◌∙◌, ap, List, Some, None, map, subst}
use Rattle.std.proofs.lemmas.List.{take_all}
use Rattle.std.specs.Prelude.{if◌then◌else◌}
use Rattle.std.specs.Option.{option_or}
use Rattle.std.specs.Str.{bytes_eq}
use Rattle.module_load.specs.declared.globals.ModuleGlobal.{ModuleGlobal}
use Rattle.module_load.specs.NamePlaces.{ArePlacesOf}
use Rattle.module_load.proofs.NamePlaces.{place_more}
use Rattle.module_load.proofs.globals.places_of.Goals as goal

pub loop-place-preserved : goal.loop-place-preserved
loop-place-preserved c name =
    c.in_ok-note.ensures name
    ∙ ap (λ o. option_or o (if bytes_eq name c.index-rows-place.result.name then Some c.loop-place.place else None)) (c.loop-place.invariant name)
    ∙ place_more (λ (g : ModuleGlobal). g.name) c.args.rows.now c.loop-place.place c.index-rows-place.result name c.loop-place-test.true c.index-rows-place.is

pub returns : goal.returns
returns c =
    subst (λ (gs : List ModuleGlobal). ArePlacesOf c.loop-place.places (map (λ (g : ModuleGlobal). g.name) gs)) (take_all c.loop-place.place c.args.rows.now c.loop-place-test.false) c.loop-place.invariant
