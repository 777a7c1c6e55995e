-- Which module bytes spell, or why they spell none: their tokens, the forms of their lines, and their blocks.
use Rattle.std.specs.Prelude.{◌≡◌, ℕ, List, Result, Ok, Err}
use Rattle.py_tree.specs.Syntax.{Statements}
use Rattle.py_tree.specs.Joined.{module_of}
use Rattle.py_tree.specs.declared.fault.Fault.{Fault}
use Rattle.py_tree.specs.declared.fault.Stop.{Stop}
use Rattle.py_tree.specs.declared.fault.Stop.TheVariants as stop
use Rattle.py_tree.specs.declared.statement.Module.{Module}
use Rattle.py_lexer.specs.declared.token.LogicalLine.{LogicalLine}
use Rattle.py_lexer.specs.Lexing.{Lexes}
use Rattle.py_blocks.specs.Blocks.{Rows, ModuleAt}
use Rattle.py_blocks.specs.Faults.{Shallow, FaultIn}
use Rattle.module_load.specs.Preparing.{Forms, FirstFault}

-- the bytes spell a module
pub record Spells (bytes : List ℕ) (body : Statements) : Type 0 where
  pub lines : List LogicalLine
  pub rows : Rows
  pub lexed : Lexes bytes (Ok lines)
  pub formed : Forms lines rows
  pub built : ModuleAt rows body
  pub shallow : Shallow rows

-- why they spell none
pub data Spoilt (bytes : List ℕ) : Fault → Type 0 where
  by_text : {f : Fault} → Lexes bytes (Err f) → Spoilt bytes f
  by_line : {lines : List LogicalLine} {f : Fault} → Lexes bytes (Ok lines) → FirstFault lines f → Spoilt bytes f
  by_block : {lines : List LogicalLine} {rows : Rows} {f : Fault} → Lexes bytes (Ok lines) → Forms lines rows → FaultIn rows f.line f.code → Spoilt bytes f

abbrev pub IsParsed : List ℕ → Result Module Stop → Type 0
IsParsed bytes (Ok made) = Spells bytes (module_of made)
IsParsed bytes (Err (stop.Fault f)) = Spoilt bytes f
IsParsed bytes (Err (stop.Memory error)) = Unit {0}

-- nothing else is so
abbrev pub OnlyParse : List ℕ → Result Module Stop → Type 0
OnlyParse bytes (Ok made) = ((body : Statements) → Spells bytes body → body ≡ module_of made) × ((f : Fault) → Spoilt bytes f → ⊥)
OnlyParse bytes (Err (stop.Fault f)) = ((body : Statements) → Spells bytes body → ⊥) × ((g : Fault) → Spoilt bytes g → g ≡ f)
OnlyParse bytes (Err (stop.Memory error)) = Unit {0}
