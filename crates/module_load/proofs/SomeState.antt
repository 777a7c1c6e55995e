-- Each file has a state.
use Rattle.std.proofs.Common.{◌≡◌, ◌≤◌, ◌⊎◌, ℕ, Bool, true, false, List, [], ◌∷◌, length, Option, Some, None, Result, Ok, Err, inl, inr, refl}
use Rattle.std.specs.Prelude.{nat_le}
use Rattle.std.proofs.lemmas.Bool.{leb-true, leb-false}
use Rattle.py_tree.specs.Syntax.{Statements}
use Rattle.py_tree.specs.declared.fault.Fault.{Fault}
use Rattle.py_lexer.specs.declared.token.LogicalLine.{LogicalLine}
use Rattle.py_lexer.specs.EveryText.{HasSome}
use Rattle.py_lexer.specs.Marker.{IsFirstMarker, first_marker}
use Rattle.py_lexer.specs.Lexing.{greatest_size, Lexes}
use Rattle.py_lexer.proofs.FirstMarkers.{first_marker_is}
use Rattle.py_lexer.proofs.SomeReading.{some_answer}
use Rattle.py_expr.specs.Forms.{Form}
use Rattle.py_expr.specs.EveryLine.{Reads}
use Rattle.py_expr.proofs.SomeForm.{some_form}
use Rattle.py_blocks.specs.Blocks.{Rows, row, ModuleAt}
use Rattle.py_blocks.specs.EveryRows.{HasModule, HasFault}
use Rattle.py_blocks.specs.Faults.{Shallow}
use Rattle.py_blocks.proofs.SomeModule.{some_module}
use Rattle.module_load.specs.Sources.{State}
use Rattle.module_load.specs.Markers.{is_marked}
use Rattle.module_load.specs.Preparing.{Forms, no_line, a_line, FirstFault, here, later, Prepares, too_large, unmarked, bad_text, bad_line, bad_block, misplaced, a_module}

-- the lines have rows, or a first that has none
some_rows : (lines : List LogicalLine) → ((rows : Rows) → Forms lines rows → ⊥) → ((f : Fault) → FirstFault lines f → ⊥) → ⊥
some_rows [] no_rows no_fault = no_rows [] no_line
some_rows (l ∷ ls) no_rows no_fault = some_form l.tokens l.line (by (some_rows ls)) where
  by : (((rows : Rows) → Forms ls rows → ⊥) → ((f : Fault) → FirstFault ls f → ⊥) → ⊥) → (r : Result Form Fault) → Reads l.tokens l.line r → ⊥
  by rest (Ok form) d = rest (λ rows e. no_rows (row l.indent l.line form ∷ rows) (a_line d.0 d.1 e)) (λ f e. no_fault f (later d.0 d.1 e))
  by rest (Err f) d = no_fault f (here d)

-- rows that are marked or not
of_rows : (bytes : List ℕ) (n : ℕ) (lines : List LogicalLine) (rows : Rows) → length bytes ≤ greatest_size → IsFirstMarker bytes (Some n) → Lexes bytes (Ok lines) → Forms lines rows
    → ((s : State) → Prepares bytes s → ⊥) → ⊥
of_rows bytes n lines rows small marker lexed formed none = by (some_module rows) where
  marked : (body : Statements) → ModuleAt rows body → Shallow rows → (b : Bool) → is_marked body ≡ b → ⊥
  marked body d few true h = none _ (a_module small marker lexed formed d few h)
  marked body d few false h = none _ (misplaced small marker lexed formed d few h)

  by : HasModule rows ⊎ HasFault rows → ⊥
  by (inl d) = marked d.0 d.1 d.2 (is_marked d.0) refl
  by (inr d) = none _ (bad_block small marker lexed formed d.2)

pub some_state : (bytes : List ℕ) → HasSome (Prepares bytes)
some_state bytes none = by (nat_le (length bytes) greatest_size) refl where
  of_answer : length bytes ≤ greatest_size → (n : ℕ) → IsFirstMarker bytes (Some n) → (r : Result (List LogicalLine) Fault) → Lexes bytes r → ⊥
  of_answer small n marker (Ok lines) d = some_rows lines (λ rows e. of_rows bytes n lines rows small marker d e none) (λ f e. none _ (bad_line small marker d e))
  of_answer small n marker (Err f) d = none _ (bad_text small marker d)

  of_marker : length bytes ≤ greatest_size → (m : Option ℕ) → IsFirstMarker bytes m → ⊥
  of_marker small None d = none _ (unmarked small d)
  of_marker small (Some n) d = some_answer bytes (of_answer small n d)

  by : (b : Bool) → nat_le (length bytes) greatest_size ≡ b → ⊥
  by false h = none _ (too_large (leb-false _ _ h))
  by true h = of_marker (leb-true _ _ h) (first_marker bytes) (first_marker_is bytes (first_marker bytes) refl)
