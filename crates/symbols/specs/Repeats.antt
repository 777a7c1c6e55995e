-- No definition of the language: what is known of the bindings of one name.
use Rattle.std.specs.Prelude.{◌≡◌, ℕ, List, [], ◌∷◌, Option, Some, None, cond, option_to_list}
use Rattle.std.specs.List.{list_any}
use Rattle.symbols.specs.declared.binding.Binding.{Binding}
use Rattle.symbols.specs.declared.repeats.Repeats.{Repeats}
use Rattle.symbols.specs.Faults.{bound_again}
use Rattle.symbols.specs.Kinds.{flag, meets}

abbrev pub second_line : List Binding → Option ℕ
second_line [] = None
second_line (b ∷ bs) = Some b.line

-- the kinds of these bindings, and the line of the second of them
pub record Known (b : Binding) (bs : List Binding) (r : Repeats) : Type 0 where
  pub kinds : (others : ℕ) → meets others r.kinds.0 ≡ list_any (λ c. meets others (flag c.kind)) (b ∷ bs)
  pub second : r.second ≡ second_line bs

abbrev pub IsRepeats : List Binding → Option Repeats → Type 0
IsRepeats [] None = Unit {0}
IsRepeats [] (Some r) = ⊥
IsRepeats (b ∷ bs) None = ⊥
IsRepeats (b ∷ bs) (Some r) = Known b bs r

-- the line of the second, where one is of these kinds
abbrev pub seconds : ℕ → Option Repeats → List ℕ
seconds others None = []
seconds others (Some r) = cond (meets others r.kinds.0) (option_to_list r.second) []

abbrev pub bound_with : ℕ → List Binding → List ℕ
bound_with others bs = bound_again (λ kind. meets others (flag kind)) bs
