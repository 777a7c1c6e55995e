use Rattle.std.proofs.Common.{◌≡◌, ◌∷◌, ◌++◌, drop}
use Rattle.std.specs.List.{flat_map}
use Rattle.atom_ops.specs.Texts.{escaped}
use Rattle.atom_ops.proofs.text.repr_text.Given as goal

-- what was written, and what is left to write
abbrev pub invariant-loop-point : goal.invariant-loop-point
invariant-loop-point l = l.points.items ++ flat_map (escaped l.quote) (drop l.point-index l.text) ≡ l.quote ∷ flat_map (escaped l.quote) l.text
