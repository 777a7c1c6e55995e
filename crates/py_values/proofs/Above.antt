-- The classes above a class are those that it is below.
use Rattle.std.proofs.Common.{◌≡◌, List, [], ◌∷◌, Option, Some, None, refl, subst, sym}
use Rattle.std.specs.List.{AllByRecursion, Contains}
use Rattle.std.proofs.lemmas.List.Elements.{All-contains, All-from_recursion, Contains-append_left, Contains-append_right, Contains-push}
use Rattle.py_values.specs.Exceptions.{base_of, exceptions_above, AreAbove, IsBelow, itself, by_base}
use Rattle.py_values.specs.declared.exception.ExcKind.{ExcKind}
use Rattle.py_values.specs.declared.exception.ExcKind.TheVariants.{Exception, ArithmeticError, ZeroDivisionError, OverflowError, LookupError, IndexError, KeyError, NameError, UnboundLocalError, AttributeError, TypeError, ValueError, RuntimeError, RecursionError, FrozenError}

below_all : (k : ExcKind) → AllByRecursion (IsBelow k) (exceptions_above k)
below_all Exception = (itself, tt)
below_all ArithmeticError = (itself, (by_base refl itself, tt))
below_all ZeroDivisionError = (itself, (by_base refl itself, (by_base refl (by_base refl itself), tt)))
below_all OverflowError = (itself, (by_base refl itself, (by_base refl (by_base refl itself), tt)))
below_all LookupError = (itself, (by_base refl itself, tt))
below_all IndexError = (itself, (by_base refl itself, (by_base refl (by_base refl itself), tt)))
below_all KeyError = (itself, (by_base refl itself, (by_base refl (by_base refl itself), tt)))
below_all NameError = (itself, (by_base refl itself, tt))
below_all UnboundLocalError = (itself, (by_base refl itself, (by_base refl (by_base refl itself), tt)))
below_all AttributeError = (itself, (by_base refl itself, tt))
below_all TypeError = (itself, (by_base refl itself, tt))
below_all ValueError = (itself, (by_base refl itself, tt))
below_all RuntimeError = (itself, (by_base refl itself, tt))
below_all RecursionError = (itself, (by_base refl itself, (by_base refl (by_base refl itself), tt)))
below_all FrozenError = (itself, (by_base refl itself, tt))

rest : Option ExcKind → List ExcKind
rest None = []
rest (Some b) = exceptions_above b

line_is : (k : ExcKind) → exceptions_above k ≡ k ∷ rest (base_of k)
unfolding rest
line_is Exception = refl
line_is k = refl

first : {X : Type 0} (x : X) (xs : List X) → Contains (x ∷ xs) x
first x xs = Contains-append_left (x ∷ []) xs x (Contains-push [] x)

further : {X : Type 0} (x : X) (xs : List X) (y : X) → Contains xs y → Contains (x ∷ xs) y
further x xs y h = Contains-append_right (x ∷ []) xs y h

among_all : (k a : ExcKind) → IsBelow k a → Contains (exceptions_above k) a
unfolding rest
among_all k _ itself = subst (λ z. Contains z k) (sym (line_is k)) (first k (rest (base_of k)))
among_all k a (by_base {b = b} e h) =
    subst (λ z. Contains z a) (sym (line_is k)) (further k (rest (base_of k)) a (subst (λ z. Contains (rest z) a) (sym e) (among_all b a h)))

pub all_above : (k : ExcKind) → AreAbove k (exceptions_above k)
all_above k a = (among_all k a, All-contains (IsBelow k) (exceptions_above k) a (All-from_recursion (IsBelow k) (exceptions_above k) (below_all k)))
