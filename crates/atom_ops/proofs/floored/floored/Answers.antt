use Rattle.std.proofs.Common.{rules, ◌≡◌, false, arith, int_div, int_rem}
use Rattle.std.proofs.lemmas.Int.{to_z-of_z}
use Rattle.atom_ops.specs.Floored.{is_beside}
use Rattle.atom_ops.proofs.Division.{computed}
use Rattle.atom_ops.proofs.floored.floored.Goals as goal

pub returns : goal.returns
returns c =
    let q = c.truncated-parts.result.quotient in
    let r = c.truncated-parts.result.remainder in
    let away : is_beside c.args.b r ≡ false = search rules in
    let divided : q ≡ int_div c.args.a c.args.b = grind (arith, to_z-of_z, c.truncated-parts.ensures.quotient) in
    let left : r ≡ int_rem c.args.a c.args.b = grind (arith, to_z-of_z, c.truncated-parts.ensures.remainder) in
    let divisor : c.from.result ≡ c.args.b = grind (arith, to_z-of_z, c.from.ensures) in
    computed _ _ _ _ _ c.ranges.a c.ranges.b c.requires divided left divisor away
