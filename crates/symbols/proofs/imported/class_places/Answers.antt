use Rattle.std.proofs.Common.{◌≡◌, ◌+◌, ◌<◌, ◌∷◌, [], ◌++◌, length, take, refl, sym, ap, ◌∙◌, arith}
use Rattle.std.proofs.lemmas.List.{length-take-le, take_more}
use Rattle.symbols.specs.declared.outer.ModuleClass.{ModuleClass}
use Rattle.symbols.specs.Places.{member_name}
use Rattle.symbols.proofs.Places.{kept}
use Rattle.symbols.proofs.imported.class_places.Goals as goal

pub loop-place-preserved : goal.loop-place-preserved
loop-place-preserved c =
    let within : c.loop-place.place < length c.args.classes.now = omega arith in
    let added : take (c.loop-place.place + 1) c.args.classes.now ≡ take c.loop-place.place c.args.classes.now ++ c.index-classes-place.result ∷ [] =
    take_more c.args.classes.now c.loop-place.place c.index-classes-place.result within ∙ ap (λ (b : ModuleClass). take c.loop-place.place c.args.classes.now ++ b ∷ []) (sym c.index-classes-place.is)
    in
    kept member_name (take c.loop-place.place c.args.classes.now) (take (c.loop-place.place + 1) c.args.classes.now) c.index-classes-place.result c.index-classes-place.result.name c.loop-place.place
    c.loop-place.places c.keep.new.self refl (sym (length-take-le c.loop-place.place c.args.classes.now (omega arith))) added c.in_ok-keep.ensures.found c.loop-place.invariant
