use Rattle.std.proofs.Common.{◌≡◌, ◌^◌, ◌-◌, min, take}
use Rattle.atom_ops.specs.IntTexts.{decimal}
use Rattle.atom_ops.proofs.read_int.magnitude.Given as goal

abbrev pub invariant-loop-digit : goal.invariant-loop-digit
invariant-loop-digit l = l.number ≡ min (decimal (take l.digit-index l.digits)) (2 ^ 64 - 1)
