use Rattle.std.proofs.Common.{take}
use Rattle.symbols.specs.Places.{ArePlaces, member_name}
use Rattle.symbols.proofs.imported.class_places.Given as goal

abbrev pub invariant-loop-place : goal.invariant-loop-place
invariant-loop-place l = ArePlaces member_name (take l.place l.classes) l.places
