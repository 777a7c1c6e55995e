use Rattle.std.proofs.Common.{◌∙◌, ap, Some, None}
use Rattle.std.specs.Prelude.{if◌then◌else◌}
use Rattle.std.specs.Option.{option_or}
use Rattle.std.specs.Str.{bytes_eq}
use Rattle.module_load.specs.declared.source.Source.{Source}
use Rattle.module_load.proofs.NamePlaces.{place_more}
use Rattle.module_load.proofs.folder.numbers_of.Goals as goal

pub loop-number-preserved : goal.loop-number-preserved
loop-number-preserved c name =
    c.in_ok-keep.ensures.found name
    ∙ ap (λ o. option_or o (if bytes_eq name c.index-list-number.result.name then Some c.loop-number.number else None)) (c.loop-number.invariant name)
    ∙ place_more (λ (s : Source). s.name) c.args.list.now c.loop-number.number c.index-list-number.result name c.loop-number-test.true c.index-list-number.is
