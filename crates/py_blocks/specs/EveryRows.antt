-- Each list of rows has a module or a fault.
use Rattle.std.specs.Prelude.{◌⊎◌, ℕ}
use Rattle.py_tree.specs.Syntax.{Statements}
use Rattle.py_tree.specs.declared.code.Code.{Code}
use Rattle.py_blocks.specs.Blocks.{Rows, ModuleAt}
use Rattle.py_blocks.specs.Faults.{FaultIn, Shallow}

-- a module with no row past level 100
abbrev pub HasModule : Rows → Type 0
HasModule rows = (body : Statements) × ModuleAt rows body × Shallow rows

abbrev pub HasFault : Rows → Type 0
HasFault rows = (line : ℕ) × (code : Code) × FaultIn rows line code

abbrev pub EveryRows : Type 0
EveryRows = (rows : Rows) → HasModule rows ⊎ HasFault rows
