-- The rows of operands that are seen.
use Rattle.std.proofs.Common.{◌≡◌, ◌≢◌, ◌<◌, ◌≤◌, ◌-◌, ℕ, suc, Bool, true, false, not, if◌then◌else◌, [], ◌∷◌, length, reverse, nat_lt, slice_get, get_or, Option, Some, None, refl, sym, ap, ◌∙◌, ℤ, pos, negsuc, arith}
use Rattle.std.specs.List.{list_any}
use Rattle.std.specs.Option.{option_and_then}
use Rattle.std.proofs.lemmas.Bool.Decides.{nat_tests}
use Rattle.std.proofs.lemmas.List.{get_or-reverse, length-reverse}
use Rattle.std.proofs.lemmas.Option.{slice_get-get_or, slice_get_past}
use Rattle.py_tree.specs.Syntax.{Text}
use Rattle.py_tree.specs.declared.operator.UnaryOp.{UnaryOp}
use Rattle.py_tree.specs.declared.operator.BinaryOp.{BinaryOp}
use Rattle.py_tree.specs.declared.operator.BinaryOp.TheVariants.{Add}
use Rattle.py_tree.specs.declared.operator.CompareOp.{CompareOp}
use Rattle.py_tree.specs.declared.operator.CompareOp.TheVariants.{Eq, Ne, Lt, Le, Gt, Ge, In, NotIn}
use Rattle.py_tree.specs.declared.operator.Const.{Const}
use Rattle.py_values.specs.declared.exception.ExcKind.TheVariants.{IndexError}
use Rattle.atom_ops.specs.Operands.{Operand, Truth, Int, Points, Prim64, Row, Gives, Raises, Looks, free, is_host, is_true}
use Rattle.atom_ops.specs.Operators.{Unary, Not, Binary, Compare, Is, Index, Test, Call, ToRepr, ToStr, ToBool, are_equal, binary, calculated, called, character_or, compared, is_constant, opposite, order, ordered, place_in, point_at, produced, row, signed, written}
use Rattle.atom_ops.specs.Rows.{AreTexts, IsSeen, IsText}

abbrev looked : Row → Bool → Row
looked r b = if b then free Looks else r

one : (a : Operand) → IsSeen a → list_any is_host (a ∷ []) ≡ false
one a h = rw h refl

two : (a b : Operand) → IsSeen a → IsSeen b → list_any is_host (a ∷ b ∷ []) ≡ false
two a b h k = rw h (rw k refl)

pub signed_row : (op : UnaryOp) (a : Operand) → IsSeen a → row (Unary op a) ≡ signed op a
signed_row op a h = ap (looked (signed op a)) (one a h)

pub opposite_row : (a : Operand) → IsSeen a → row (Not a) ≡ opposite a
opposite_row a h = ap (looked (opposite a)) (one a h)

pub truth_rows : (a : Operand) → IsSeen a → (row (Test a) ≡ free (Gives (Truth (is_true a)))) × (row (Call ToBool (a ∷ [])) ≡ free (Gives (Truth (is_true a))))
truth_rows a h = (ap (looked (free (Gives (Truth (is_true a))))) (one a h), ap (looked (free (Gives (Truth (is_true a))))) (one a h))

calculated_is : (op : BinaryOp) (a b : Operand) → (op ≡ Add → AreTexts a b → ⊥) → binary op a b ≡ calculated op a b
calculated_is op (Prim64 a) (Prim64 b) h = refl
calculated_is Add (Points a) (Points b) h = absurd (h refl tt)
calculated_is op a b h = refl

pub calculated_row : (op : BinaryOp) (a b : Operand) → IsSeen a → IsSeen b → (op ≡ Add → AreTexts a b → ⊥) → row (Binary op a b) ≡ calculated op a b
calculated_row op a b h k other = ap (looked (binary op a b)) (two a b h k) ∙ calculated_is op a b other

pub order_row : (op : CompareOp) (a b : Operand) → IsSeen a → IsSeen b → op ≢ Eq → op ≢ Ne → op ≢ In → op ≢ NotIn → row (Compare op a b) ≡ ordered op a b (order a b)
order_row Eq a b h k eq ne isin notin = absurd (eq refl)
order_row Ne a b h k eq ne isin notin = absurd (ne refl)
order_row In a b h k eq ne isin notin = absurd (isin refl)
order_row NotIn a b h k eq ne isin notin = absurd (notin refl)
order_row Lt a b h k eq ne isin notin = ap (looked (ordered Lt a b (order a b))) (two a b h k)
order_row Le a b h k eq ne isin notin = ap (looked (ordered Le a b (order a b))) (two a b h k)
order_row Gt a b h k eq ne isin notin = ap (looked (ordered Gt a b (order a b))) (two a b h k)
order_row Ge a b h k eq ne isin notin = ap (looked (ordered Ge a b (order a b))) (two a b h k)

pub equal_rows : (a b : Operand) → IsSeen a → IsSeen b
    → (row (Compare Eq a b) ≡ compared a b (are_equal a b)) × (row (Compare Ne a b) ≡ compared a b (not (are_equal a b)))
equal_rows a b h k = (ap (looked (compared a b (are_equal a b))) (two a b h k), ap (looked (compared a b (not (are_equal a b)))) (two a b h k))

pub constant_row : (negated : Bool) (constant : Const) (a : Operand) → IsSeen a
    → row (Is negated a constant) ≡ free (Gives (Truth (if negated then not (is_constant constant a) else is_constant constant a)))
constant_row negated constant a h = ap (looked (free (Gives (Truth (if negated then not (is_constant constant a) else is_constant constant a))))) (one a h)

str_is : (a : Operand) → (IsText a → ⊥) → called ToStr (a ∷ []) ≡ produced (written a)
str_is (Points text) other = absurd (other tt)
str_is a other = refl

pub text_rows : (a : Operand) → IsSeen a → (row (Call ToRepr (a ∷ [])) ≡ produced (written a)) × ((IsText a → ⊥) → row (Call ToStr (a ∷ [])) ≡ produced (written a))
text_rows a h = (ap (looked (produced (written a))) (one a h), λ other. ap (looked (called ToStr (a ∷ []))) (one a h) ∙ str_is a other)

-- ---- subscripts

abbrev at : Text → Option ℕ → Option ℕ
at text o = option_and_then (slice_get text) o

from_the_front : (text : Text) (n : ℕ) (b : Bool) → nat_lt n (length text) ≡ b → slice_get text n ≡ at text (if b then Some n else None)
from_the_front text n true e = refl
from_the_front text n false e = slice_get_past text n (grind (arith, nat_tests))

from_the_end : (text : Text) (n : ℕ) (b : Bool) → nat_lt n (length text) ≡ b → slice_get (reverse text) n ≡ at text (if b then Some (length text - suc n) else None)
from_the_end text n true e =
    let within : n < length text = grind (arith, nat_tests) in
    slice_get-get_or (reverse text) n 0 (omega (arith, within, length-reverse text))
    ∙ ap Some (get_or-reverse text n 0 within)
    ∙ ap (λ k. Some (get_or text k 0)) (omega arith)
    ∙ sym (slice_get-get_or text (length text - suc n) 0 (omega (arith, within)))
from_the_end text n false e = slice_get_past (reverse text) n (let past : length text ≤ n = grind (arith, nat_tests) in omega (arith, past, length-reverse text))

point_is : (text : Text) (i : ℤ) → point_at text i ≡ at text (place_in (length text) i)
point_is text (pos n) = from_the_front text n (nat_lt n (length text)) refl
point_is text (negsuc n) = from_the_end text n (nat_lt n (length text)) refl

pub index_row : (text : Text) (i : ℤ) → row (Index (Points text) (Int i)) ≡ free (character_or (option_and_then (slice_get text) (place_in (length text) i)) (Raises IndexError))
index_row text i = ap (λ o. free (character_or o (Raises IndexError))) (point_is text i)
