-- A name whose first character has been read.
use Rattle.std.proofs.Common.{◌≡◌, ℕ, Bool, true, List, ◌++◌, ◌&&◌, chars, sym, ◌∙◌, ap}
use Rattle.std.proofs.Math.Utf8.{encode, scalars}
use Rattle.std.specs.List.{list_all}
use Rattle.std.specs.Str.{IsUtf8}
use Rattle.std.proofs.lemmas.Bool.{and_parts}
use Rattle.std.proofs.lemmas.Str.{chars_past_char, cons_from_encodes}
use Rattle.unicode_ident.specs.Ident.{is_xid_continue}
use Rattle.py_lexer.specs.Names.{is_spelled_as_identifier, may_start_identifier}

-- What stands behind the first character of a text is a text.
pub IsUtf8-after_first : (bs rest : List ℕ) (c : ℕ) → IsUtf8 bs → bs ≡ encode c ++ rest → IsUtf8 rest
IsUtf8-after_first bs rest c u e =
    let others = cons_from_encodes u.0 rest c (u.1.1 ∙ e) in
    (others.0, ((and_parts _ _ (sym (ap scalars others.1) ∙ u.1.0)).1, others.2))

-- Where the first character may start an identifier, the others decide.
pub spelled_by_others : (bs rest : List ℕ) (c : ℕ) → IsUtf8 bs → bs ≡ encode c ++ rest → may_start_identifier c ≡ true → is_spelled_as_identifier (chars bs) ≡ list_all is_xid_continue (chars rest)
spelled_by_others bs rest c u e may = ap is_spelled_as_identifier (chars_past_char bs rest c u e) ∙ ap (λ (b : Bool). b && list_all is_xid_continue (chars rest)) may
