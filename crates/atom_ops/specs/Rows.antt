-- The calls of this crate are rows of the operator table.
use Rattle.std.specs.Prelude.{◌≡◌, ◌≢◌, nat_eq, not, min, Bool, false, if◌then◌else◌, [], ◌∷◌, ◌++◌, length, slice_get, ℤ, pos}
use Rattle.std.specs.List.{ends_with, starts_with}
use Rattle.std.specs.Option.{option_and_then}
use Rattle.py_tree.specs.Syntax.{Text}
use Rattle.py_tree.specs.declared.operator.UnaryOp.{UnaryOp}
use Rattle.py_tree.specs.declared.operator.UnaryOp.TheVariants.{Minus}
use Rattle.py_tree.specs.declared.operator.BinaryOp.{BinaryOp}
use Rattle.py_tree.specs.declared.operator.BinaryOp.TheVariants.{Add, Sub}
use Rattle.py_tree.specs.declared.operator.CompareOp.{CompareOp}
use Rattle.py_tree.specs.declared.operator.CompareOp.TheVariants.{Eq, Ne, In, NotIn}
use Rattle.py_tree.specs.declared.operator.Const.{Const}
use Rattle.py_values.specs.declared.exception.ExcKind.TheVariants.{IndexError, ValueError}
use Rattle.atom_ops.specs.Arithmetic.{as_int, int_result, negated, primitive_result}
use Rattle.atom_ops.specs.Texts.{order_of, repr_of}
use Rattle.atom_ops.specs.IntTexts.{int_of}
use Rattle.atom_ops.specs.Operands.{Operand, Truth, Int, Points, Prim64, Gives, Raises, at_cost, free, answer_of, is_host, is_true, of_number}
use Rattle.atom_ops.specs.Operators.{Unary, Not, Binary, Compare, Is, Index, Test, Call, Len, ToInt, ToRepr, ToStr, ToBool, Abs, Ord, Chr, StartsWith, EndsWith, are_equal, calculated, character, character_or, code_of, compared, contains, holds, is_constant, magnitude, opposite, order, ordered, place_in, produced, row, signed, written}

-- both are texts
abbrev pub AreTexts : Operand → Operand → Type 0
AreTexts (Points a) (Points b) = Unit {0}
AreTexts a b = ⊥

abbrev pub IsText : Operand → Type 0
IsText (Points text) = Unit {0}
IsText a = ⊥

-- it is seen
abbrev pub IsSeen : Operand → Type 0
IsSeen a = is_host a ≡ false

pub record AreRows : Type 0 where
  pub int_op : (op : BinaryOp) (a b : ℤ) → row (Binary op (Int a) (Int b)) ≡ free (answer_of Int (int_result op a b))
  pub int_neg : (a : ℤ) → row (Unary Minus (Int a)) ≡ free (answer_of Int (negated a))
  pub prim_op : (op : BinaryOp) (a b : ℤ) → row (Binary op (Prim64 a) (Prim64 b)) ≡ free (answer_of Prim64 (primitive_result op a b))
  pub prim_neg : (a : ℤ) → row (Unary Minus (Prim64 a)) ≡ free (answer_of Prim64 (primitive_result Sub (pos 0) a))  -- by `prim_op`
  pub compare_text : (op : CompareOp) (a b : Text) → op ≢ In → op ≢ NotIn → row (Compare op (Points a) (Points b)) ≡ at_cost (min (length a) (length b)) (Truth (holds op (order_of a b)))
  pub repr_text : (text : Text) → row (Call ToRepr (Points text ∷ [])) ≡ at_cost (length (repr_of text)) (Points (repr_of text))
  pub read_int : (text : Text) → row (Call ToInt (Points text ∷ [])) ≡ free (answer_of Int (int_of text))
  -- of an atom or two
  pub signed : (op : UnaryOp) (a : Operand) → IsSeen a → row (Unary op a) ≡ signed op a
  pub opposite : (a : Operand) → IsSeen a → row (Not a) ≡ opposite a
  pub is_true : (a : Operand) → IsSeen a → (row (Test a) ≡ free (Gives (Truth (is_true a)))) × (row (Call ToBool (a ∷ [])) ≡ free (Gives (Truth (is_true a))))
  pub calculate : (op : BinaryOp) (a b : Operand) → IsSeen a → IsSeen b → (op ≡ Add → AreTexts a b → ⊥) → row (Binary op a b) ≡ calculated op a b
  pub order : (op : CompareOp) (a b : Operand) → IsSeen a → IsSeen b → op ≢ Eq → op ≢ Ne → op ≢ In → op ≢ NotIn → row (Compare op a b) ≡ ordered op a b (order a b)
  pub are_equal : (a b : Operand) → IsSeen a → IsSeen b
      → (row (Compare Eq a b) ≡ compared a b (are_equal a b)) × (row (Compare Ne a b) ≡ compared a b (not (are_equal a b)))
  pub is_constant : (negated : Bool) (constant : Const) (a : Operand) → IsSeen a
      → row (Is negated a constant) ≡ free (Gives (Truth (if negated then not (is_constant constant a) else is_constant constant a)))
  pub text_of : (a : Operand) → IsSeen a → (row (Call ToRepr (a ∷ [])) ≡ produced (written a)) × ((IsText a → ⊥) → row (Call ToStr (a ∷ [])) ≡ produced (written a))
  -- of texts and numbers
  pub joined : (a b : Text) → row (Binary Add (Points a) (Points b)) ≡ at_cost (length (a ++ b)) (Points (a ++ b))
  pub contains : (part text : Text)
      → (row (Compare In (Points part) (Points text)) ≡ at_cost (length text) (Truth (contains part text)))
      × (row (Compare NotIn (Points part) (Points text)) ≡ at_cost (length text) (Truth (not (contains part text))))
  pub begins : (text part : Text) → row (Call StartsWith (Points text ∷ Points part ∷ [])) ≡ at_cost (length part) (Truth (starts_with nat_eq text part))
  pub ends : (text part : Text) → row (Call EndsWith (Points text ∷ Points part ∷ [])) ≡ at_cost (length part) (Truth (ends_with nat_eq text part))
  pub place_in : (text : Text) (i : ℤ) → row (Index (Points text) (Int i)) ≡ free (character_or (option_and_then (slice_get text) (place_in (length text) i)) (Raises IndexError))
  pub character : (n : ℤ) → row (Call Chr (Int n ∷ [])) ≡ free (character_or (character n) (Raises ValueError))
  pub code_of : (text : Text) → row (Call Ord (Points text ∷ [])) ≡ of_number (λ n. Gives (Int n)) (code_of text)
  pub magnitude : (n : ℤ) → row (Call Abs (Int n ∷ [])) ≡ free (answer_of Int (magnitude n))
  pub length_as_int : (text : Text) → row (Call Len (Points text ∷ [])) ≡ free (answer_of Int (as_int (pos (length text))))
