use Rattle.std.proofs.Common.{rules, ◌≡◌, ◌≢◌, negsuc, Ok, ap, ◌∙◌, arith, to_z, of_z, w64}
use Rattle.std.specs.Int.{int_wrapping_neg}
use Rattle.std.proofs.lemmas.Int.{to_z-of_z}
use Rattle.atom_ops.specs.Arithmetic.{as_int, by_divisor}
use Rattle.atom_ops.specs.Floored.{quotient}
use Rattle.atom_ops.proofs.Results.{primitive_quotient, negated}
use Rattle.atom_ops.proofs.arithmetic.wrapping_quotient.Goals as goal

pub returns-then-b-eqminus1 : goal.returns-then-b-eqminus1
returns-then-b-eqminus1 c =
    let minus_one : c.args.b ≡ negsuc 0 = search rules in
    let wrapped : to_z w64 (of_z w64 c.wrapping_neg.result) ≡ int_wrapping_neg w64 c.args.a = grind (arith, to_z-of_z, c.wrapping_neg.ensures) in
    ap Ok wrapped ∙ negated _ _ c.ranges.a minus_one

pub returns : goal.returns
returns c =
    let other : c.args.b ≢ negsuc 0 = search rules in
    let is : c.quotient.result ≡ by_divisor c.args.b (as_int (quotient c.args.a c.args.b)) = grind (arith, to_z-of_z, c.quotient.ensures) in
    primitive_quotient _ _ _ c.ranges.a c.ranges.b other is
