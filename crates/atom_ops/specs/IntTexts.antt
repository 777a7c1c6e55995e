-- The int that a text spells: spaces round it, a sign or none, and decimal digits.
use Rattle.std.specs.Prelude.{ℕ, Bool, ◌&&◌, nat_lt, ◌==◌, ◌-◌, ◌+◌, ◌*◌, if◌then◌else◌, [], ◌∷◌, fold, drop, take, length, Result, Err, ℤ, pos, neg_ℤ}
use Rattle.std.specs.List.{list_all, prefix_len, suffix_len}
use Rattle.std.specs.Char.{is_ascii_digit}
use Rattle.py_tree.specs.Syntax.{Text}
use Rattle.py_values.specs.declared.exception.ExcKind.{ExcKind}
use Rattle.py_values.specs.declared.exception.ExcKind.TheVariants.{ValueError}
use Rattle.atom_ops.specs.Arithmetic.{as_int}

abbrev pub is_space : ℕ → Bool
is_space point = point == 32

abbrev pub without_first_spaces : Text → Text
without_first_spaces text = drop (prefix_len is_space text) text

abbrev pub without_last_spaces : Text → Text
without_last_spaces text = take (length text - suffix_len is_space text) text

-- the number that decimal digits spell
abbrev pub decimal : Text → ℕ
decimal digits = fold (λ n digit. n * 10 + (digit - 48)) 0 digits

-- one digit or more, and nothing else
abbrev pub is_decimal : Text → Bool
is_decimal digits = nat_lt 0 (length digits) && list_all is_ascii_digit digits

-- the int of that sign
abbrev pub signed : (ℕ → ℤ) → Text → Result ℤ ExcKind
signed sign digits = if is_decimal digits then as_int (sign (decimal digits)) else Err ValueError

abbrev pub negative : ℕ → ℤ
negative n = neg_ℤ (pos n)

abbrev pub with_sign : Text → Result ℤ ExcKind
with_sign [] = Err ValueError
with_sign (first ∷ rest) =
    if first == 45 then signed negative rest
    else (if first == 43 then signed pos rest
    else signed pos (first ∷ rest))

-- what `int` gives of a text
abbrev pub int_of : Text → Result ℤ ExcKind
int_of text = with_sign (without_last_spaces (without_first_spaces text))
