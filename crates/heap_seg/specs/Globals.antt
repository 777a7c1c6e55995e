-- The globals of a run: names, each with its value where it is bound.
use Rattle.std.specs.Prelude.{ℕ, zero, suc, List, [], ◌∷◌, map, Option, Some, None}
use Rattle.py_tree.specs.Syntax.{Text}
use Rattle.py_values.specs.declared.value.Value.{Value}
use Rattle.heap_seg.specs.declared.globals.Global.{Global}

abbrev pub unbound : List Text → List Global
unbound names = map (λ name. record { name = name; value = None }) names

-- the value of each, where it is bound
abbrev pub values_of : List Global → List (Option Value)
values_of globals = map (λ g. g.value) globals

abbrev pub with_value : List Global → ℕ → Option Value → List Global
with_value [] number value = []
with_value (g ∷ gs) zero value = record g { value = value } ∷ gs
with_value (g ∷ gs) (suc number) value = g ∷ with_value gs number value

-- with the global of that number bound to the value
abbrev pub set_at : List Global → ℕ → Value → List Global
set_at globals number value = with_value globals number (Some value)

-- with the global of that number unbound
abbrev pub unset_at : List Global → ℕ → List Global
unset_at globals number = with_value globals number None
