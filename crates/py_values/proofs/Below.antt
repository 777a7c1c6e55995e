-- The exception classes above a class: how many there are, and the steps of the test for one.
use Rattle.std.proofs.Common.{◌≡◌, ℕ, ◌↔◌, Bool, true, IsTrue, Some, refl, subst, sym, ◌∙◌}
use Rattle.py_values.specs.Exceptions.{base_of, IsBelow, itself, by_base}
use Rattle.py_values.specs.declared.exception.ExcKind.{ExcKind}
use Rattle.py_values.specs.declared.exception.ExcKind.TheVariants.{Exception, ZeroDivisionError, OverflowError, IndexError, KeyError, UnboundLocalError, RecursionError}

abbrev pub height : ExcKind → ℕ
height Exception = 0
height ZeroDivisionError = 2
height OverflowError = 2
height IndexError = 2
height KeyError = 2
height UnboundLocalError = 2
height RecursionError = 2
height _ = 1

pub below_same : (k a : ExcKind) → k ≡ a → IsTrue true ↔ IsBelow k a
below_same k a e = (λ t. subst (IsBelow k) e itself, λ h. refl)

above_base : (k b a : ExcKind) → base_of k ≡ Some b → (k ≡ a → ⊥) → IsBelow k a → IsBelow b a
above_base k b _ e other itself = absurd (other refl)
above_base k b a e other (by_base {b = c} e' h) = let same : Some c ≡ Some b = sym e' ∙ e in let one : c ≡ b = cc in subst (λ z. IsBelow z a) one h

pub below_by_base : (k b a : ExcKind) (r : Bool) → base_of k ≡ Some b → (k ≡ a → ⊥) → IsTrue r ↔ IsBelow b a → IsTrue r ↔ IsBelow k a
below_by_base k b a r e other h = (λ t. by_base e (h.0 t), λ d. h.1 (above_base k b a e other d))
