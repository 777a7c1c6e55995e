use Rattle.std.proofs.Common.{take}
use Rattle.symbols.specs.Places.{ArePlaces, outer_name}
use Rattle.symbols.proofs.imported.places_of.Given as goal

abbrev pub invariant-loop-place : goal.invariant-loop-place
invariant-loop-place l = ArePlaces outer_name (take l.place l.bindings) l.places
