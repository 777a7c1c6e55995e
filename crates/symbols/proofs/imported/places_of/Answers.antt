use Rattle.std.proofs.Common.{◌≡◌, ◌+◌, ◌<◌, ◌∷◌, [], ◌++◌, length, take, refl, sym, ap, ◌∙◌, arith}
use Rattle.std.proofs.lemmas.List.{length-take-le, take_more}
use Rattle.symbols.specs.declared.outer.OuterBinding.{OuterBinding}
use Rattle.symbols.specs.Places.{outer_name}
use Rattle.symbols.proofs.Places.{kept}
use Rattle.symbols.proofs.imported.places_of.Goals as goal

pub loop-place-preserved : goal.loop-place-preserved
loop-place-preserved c =
    let within : c.loop-place.place < length c.args.bindings.now = omega arith in
    let added : take (c.loop-place.place + 1) c.args.bindings.now ≡ take c.loop-place.place c.args.bindings.now ++ c.index-bindings-place.result ∷ [] =
    take_more c.args.bindings.now c.loop-place.place c.index-bindings-place.result within ∙ ap (λ (b : OuterBinding). take c.loop-place.place c.args.bindings.now ++ b ∷ []) (sym c.index-bindings-place.is)
    in
    kept outer_name (take c.loop-place.place c.args.bindings.now) (take (c.loop-place.place + 1) c.args.bindings.now) c.index-bindings-place.result c.index-bindings-place.result.name c.loop-place.place
    c.loop-place.places c.keep.new.self refl (sym (length-take-le c.loop-place.place c.args.bindings.now (omega arith))) added c.in_ok-keep.ensures.found c.loop-place.invariant
