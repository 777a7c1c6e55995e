-- The exception classes: their names, and which is directly below which.
use Rattle.std.specs.Prelude.{◌≡◌, ◌↔◌, ℕ, List, [], ◌∷◌, codes, Option, Some, None}
use Rattle.std.specs.List.{Contains}
use Rattle.py_values.specs.declared.exception.ExcKind.{ExcKind}
use Rattle.py_values.specs.declared.exception.ExcKind.TheVariants.{Exception, ArithmeticError, ZeroDivisionError, OverflowError, LookupError, IndexError, KeyError, NameError, UnboundLocalError, AttributeError, TypeError, ValueError, RuntimeError, RecursionError, FrozenError}

abbrev pub name_of : ExcKind → List ℕ
name_of Exception = codes "Exception"
name_of ArithmeticError = codes "ArithmeticError"
name_of ZeroDivisionError = codes "ZeroDivisionError"
name_of OverflowError = codes "OverflowError"
name_of LookupError = codes "LookupError"
name_of IndexError = codes "IndexError"
name_of KeyError = codes "KeyError"
name_of NameError = codes "NameError"
name_of UnboundLocalError = codes "UnboundLocalError"
name_of AttributeError = codes "AttributeError"
name_of TypeError = codes "TypeError"
name_of ValueError = codes "ValueError"
name_of RuntimeError = codes "RuntimeError"
name_of RecursionError = codes "RecursionError"
name_of FrozenError = codes "FrozenError"

abbrev pub base_of : ExcKind → Option ExcKind
base_of Exception = None
base_of ArithmeticError = Some Exception
base_of ZeroDivisionError = Some ArithmeticError
base_of OverflowError = Some ArithmeticError
base_of LookupError = Some Exception
base_of IndexError = Some LookupError
base_of KeyError = Some LookupError
base_of NameError = Some Exception
base_of UnboundLocalError = Some NameError
base_of AttributeError = Some Exception
base_of TypeError = Some Exception
base_of ValueError = Some Exception
base_of RuntimeError = Some Exception
base_of RecursionError = Some RuntimeError
base_of FrozenError = Some Exception

-- a class is below itself, and below what the class directly above it is below
pub data IsBelow : ExcKind → ExcKind → Type 0 where
  itself : {k : ExcKind} → IsBelow k k
  by_base : {k b a : ExcKind} → base_of k ≡ Some b → IsBelow b a → IsBelow k a

-- the class itself, the one that it is directly below, and so on
abbrev pub exceptions_above : ExcKind → List ExcKind
exceptions_above Exception = Exception ∷ []
exceptions_above ArithmeticError = ArithmeticError ∷ Exception ∷ []
exceptions_above ZeroDivisionError = ZeroDivisionError ∷ ArithmeticError ∷ Exception ∷ []
exceptions_above OverflowError = OverflowError ∷ ArithmeticError ∷ Exception ∷ []
exceptions_above LookupError = LookupError ∷ Exception ∷ []
exceptions_above IndexError = IndexError ∷ LookupError ∷ Exception ∷ []
exceptions_above KeyError = KeyError ∷ LookupError ∷ Exception ∷ []
exceptions_above NameError = NameError ∷ Exception ∷ []
exceptions_above UnboundLocalError = UnboundLocalError ∷ NameError ∷ Exception ∷ []
exceptions_above AttributeError = AttributeError ∷ Exception ∷ []
exceptions_above TypeError = TypeError ∷ Exception ∷ []
exceptions_above ValueError = ValueError ∷ Exception ∷ []
exceptions_above RuntimeError = RuntimeError ∷ Exception ∷ []
exceptions_above RecursionError = RecursionError ∷ RuntimeError ∷ Exception ∷ []
exceptions_above FrozenError = FrozenError ∷ Exception ∷ []

-- these are the classes that it is below
abbrev pub AreAbove : ExcKind → List ExcKind → Type 0
AreAbove k above = (a : ExcKind) → IsBelow k a ↔ Contains above a
