use Rattle.std.proofs.Common.{◌≡◌, sym, ap, ◌∙◌, arith, to_z, of_z, w64}
use Rattle.std.specs.Int.{int_wrapping_neg}
use Rattle.std.proofs.lemmas.Int.{to_z-of_z, wrapping_neg_is}
use Rattle.atom_ops.specs.Operands.{Gives, Prim64, free}
use Rattle.atom_ops.specs.Operators as table
use Rattle.atom_ops.proofs.atom.signed_primitive.Goals as goal

pub returns-in-Minus : goal.returns-in-Minus
returns-in-Minus c =
    let wrapped : to_z w64 (of_z w64 c.wrapping_neg.result) ≡ int_wrapping_neg w64 c.args.number = grind (arith, to_z-of_z, c.wrapping_neg.ensures) in
    ap (λ op. table.signed op (Prim64 c.args.number)) c.in-Minus.is ∙ ap (λ z. free (Gives (Prim64 z))) (sym (wrapped ∙ wrapping_neg_is w64 c.args.number c.ranges.number))
