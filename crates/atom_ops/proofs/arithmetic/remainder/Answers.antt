use Rattle.std.proofs.Common.{rules, ◌≡◌, ◌≢◌, pos, arith}
use Rattle.std.proofs.lemmas.Int.{to_z-of_z}
use Rattle.atom_ops.specs.Arithmetic.{as_int}
use Rattle.atom_ops.proofs.Results.{of_bits, remainder_is, primitive_remainder}
use Rattle.atom_ops.proofs.arithmetic.remainder.Goals as goal

pub returns : goal.returns
returns c =
    let other : c.args.b ≢ pos 0 = search rules in
    let is = of_bits _ _ _ _ c.ranges.a c.ranges.b c.floored.ensures in
    let answer : c.within_int.result ≡ as_int c.floored.result.remainder = grind (arith, to_z-of_z, c.within_int.ensures) in
    let by_ints = remainder_is _ _ _ _ _ other is answer in
    record { int = by_ints; primitive = primitive_remainder _ _ _ c.ranges.a c.ranges.b by_ints }
