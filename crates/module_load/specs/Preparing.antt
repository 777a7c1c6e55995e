-- What the bytes of a file are prepared to: the phases before imports, in their order. A phase is reached where those before it find
-- nothing.
use Rattle.std.specs.Prelude.{◌≡◌, ◌≤◌, ◌<◌, ℕ, true, false, List, [], ◌∷◌, length, Some, None, Ok, Err}
use Rattle.py_tree.specs.Syntax.{Statements}
use Rattle.py_tree.specs.declared.code.Code.{Code}
use Rattle.py_tree.specs.declared.code.Code.TheVariants.{FileTooLarge, MisplacedMarker}
use Rattle.py_tree.specs.declared.fault.Fault.{Fault}
use Rattle.py_lexer.specs.declared.token.LogicalLine.{LogicalLine}
use Rattle.py_lexer.specs.Marker.{IsFirstMarker}
use Rattle.py_lexer.specs.Lexing.{greatest_size, Lexes}
use Rattle.py_expr.specs.Forms.{Form}
use Rattle.py_expr.specs.Lines.{Line}
use Rattle.py_expr.specs.Depth.{form_nesting}
use Rattle.py_expr.specs.LineAnswers.{IsFault}
use Rattle.py_blocks.specs.Blocks.{Rows, row, ModuleAt}
use Rattle.py_blocks.specs.Faults.{Shallow, FaultIn}
use Rattle.module_load.specs.Sources.{State, plain, faulty, tree}
use Rattle.module_load.specs.Markers.{is_marked}

abbrev pub fault : ℕ → Code → Fault
fault line code = record { line = line; code = code }

-- each line spells the form of its row, nested at most 200 deep
pub data Forms : List LogicalLine → Rows → Type 0 where
  no_line : Forms [] []
  a_line : {l : LogicalLine} {f : Form} {ls : List LogicalLine} {rows : Rows} → Line l.tokens f → form_nesting f ≤ 200 → Forms ls rows → Forms (l ∷ ls) (row l.indent l.line f ∷ rows)

-- the fault of the first line that spells no such form
pub data FirstFault : List LogicalLine → Fault → Type 0 where
  here : {l : LogicalLine} {ls : List LogicalLine} {f : Fault} → IsFault l.tokens l.line f → FirstFault (l ∷ ls) f
  later : {l : LogicalLine} {ls : List LogicalLine} {g : Form} {f : Fault} → Line l.tokens g → form_nesting g ≤ 200 → FirstFault ls f → FirstFault (l ∷ ls) f

pub data Prepares (bytes : List ℕ) : State → Type 0 where
  -- size: E02
  too_large :
      greatest_size < length bytes
      → Prepares bytes (faulty (fault 1 FileTooLarge))
  -- the test: no marker line
  unmarked :
      length bytes ≤ greatest_size
      → IsFirstMarker bytes None
      → Prepares bytes plain
  -- encoding and tokens: E01, E03, E04, E08, E09
  bad_text : {n : ℕ} {f : Fault} →
      length bytes ≤ greatest_size
      → IsFirstMarker bytes (Some n)
      → Lexes bytes (Err f)
      → Prepares bytes (faulty f)
  -- line forms: E05, E08
  bad_line : {n : ℕ} {lines : List LogicalLine} {f : Fault} →
      length bytes ≤ greatest_size
      → IsFirstMarker bytes (Some n)
      → Lexes bytes (Ok lines)
      → FirstFault lines f
      → Prepares bytes (faulty f)
  -- blocks: E06, E07, E08
  bad_block : {n line : ℕ} {lines : List LogicalLine} {rows : Rows} {code : Code} →
      length bytes ≤ greatest_size
      → IsFirstMarker bytes (Some n)
      → Lexes bytes (Ok lines)
      → Forms lines rows
      → FaultIn rows line code
      → Prepares bytes (faulty (fault line code))
  -- the marker: E10 at the first marker line
  misplaced : {n : ℕ} {lines : List LogicalLine} {rows : Rows} {body : Statements} →
      length bytes ≤ greatest_size
      → IsFirstMarker bytes (Some n)
      → Lexes bytes (Ok lines)
      → Forms lines rows
      → ModuleAt rows body
      → Shallow rows
      → is_marked body ≡ false
      → Prepares bytes (faulty (fault n MisplacedMarker))
  -- no fault
  a_module : {n : ℕ} {lines : List LogicalLine} {rows : Rows} {body : Statements} →
      length bytes ≤ greatest_size
      → IsFirstMarker bytes (Some n)
      → Lexes bytes (Ok lines)
      → Forms lines rows
      → ModuleAt rows body
      → Shallow rows
      → is_marked body ≡ true
      → Prepares bytes (tree body)

-- bytes prepare to at most one state
abbrev pub AtMostOneState : Type 0
AtMostOneState = (bytes : List ℕ) (s t : State) → Prepares bytes s → Prepares bytes t → s ≡ t
