use Rattle.std.proofs.Common.{rules, ◌≡◌, ◌≢◌, pos, arith}
use Rattle.std.proofs.lemmas.Int.{to_z-of_z}
use Rattle.atom_ops.specs.Arithmetic.{as_int}
use Rattle.atom_ops.proofs.Results.{of_bits, quotient_is}
use Rattle.atom_ops.proofs.arithmetic.quotient.Goals as goal

pub returns : goal.returns
returns c =
    let other : c.args.b ≢ pos 0 = search rules in
    let is = of_bits _ _ _ _ c.ranges.a c.ranges.b c.floored.ensures in
    let answer : c.within_int.result ≡ as_int c.floored.result.quotient = grind (arith, to_z-of_z, c.within_int.ensures) in
    quotient_is _ _ _ _ _ other is answer
