use Rattle.std.proofs.Common.{ap, ◌∙◌, ℤ, pos, negsuc, FitsSigned, w64}
use Rattle.std.specs.Str.{IsAscii, chars}
use Rattle.std.specs.Fmt.{signed_decimal}
use Rattle.std.proofs.lemmas.Fmt.{IsAscii-signed}
use Rattle.std.proofs.lemmas.Int.{to_z-of_z}
use Rattle.std.proofs.lemmas.Str.{chars-IsAscii}
use Rattle.atom_ops.proofs.builtin.in_decimal.Goals as goal

ascii : (n : ℤ) → FitsSigned w64 n → IsAscii (signed_decimal n)
ascii (pos n) f = IsAscii-signed (pos n) f.sfits
ascii (negsuc n) f = IsAscii-signed (negsuc n) f.sfits

pub returns : goal.returns
returns c =
    c.in_ok-from_str.ensures.points
    ∙ ap chars (c.as_str.ensures.value ∙ c.in_ok-digits.ensures.ok ∙ ap signed_decimal (to_z-of_z w64 c.args.number c.ranges.number))
    ∙ chars-IsAscii _ (ascii c.args.number c.ranges.number)
