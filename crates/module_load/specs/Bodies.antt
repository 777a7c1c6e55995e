-- Which bodies of modules are built so far.
use Rattle.std.specs.Prelude.{ℕ, Bool, true, not, List, [], ◌∷◌, Option, Some, None, slice_get}
use Rattle.std.specs.List.{find}
use Rattle.py_tree.specs.Syntax as x
use Rattle.py_tree.specs.Syntax.{Kind, Statement, Statements}
use Rattle.py_tree.specs.TopPart.{behind_docstring, is_import}
use Rattle.py_tree.specs.declared.code.Code.{Code}
use Rattle.py_tree.specs.declared.code.Code.TheVariants.{FuelSpent, NotBuilt}
use Rattle.py_tree.specs.declared.fault.Fault.{Fault}
use Rattle.module_load.specs.Preparing.{fault}

abbrev pub listed : Statements → List Statement
listed x.end_of_statements = []
listed (x.more_statements s rest) = s ∷ listed rest

-- of the statement, where there is one
abbrev pub fault_at : Code → Option Statement → Option Fault
fault_at code None = None
fault_at code (Some (x.On line kind)) = Some (fault line code)

-- an import statement, or NAME = INT
abbrev pub is_built : Kind → Bool
is_built (x.Assign (x.ToName name) (x.Int n)) = true
is_built kind = is_import kind

abbrev pub is_unbuilt : Statement → Bool
is_unbuilt (x.On line kind) = not (is_built kind)

-- the first statement behind the docstring that isn't built
abbrev pub unbuilt : Statements → Option Fault
unbuilt body = fault_at NotBuilt (find is_unbuilt (listed (behind_docstring body)))

-- so many statements of a body are run
abbrev pub import_fuel : ℕ
import_fuel = 50000

-- the first statement behind those
abbrev pub spent : Statements → Option Fault
spent body = fault_at FuelSpent (slice_get (listed body) import_fuel)
