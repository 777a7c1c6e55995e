-- What `build` answers, in both directions. Where memory isn't found nothing is said.
use Rattle.std.specs.Prelude.{◌≡◌, ℕ, true, Result, Ok, Err}
use Rattle.py_tree.specs.Syntax.{Statements}
use Rattle.py_tree.specs.Joined.{module_of}
use Rattle.py_tree.specs.Lawful.{all_stand, lawful, module_level}
use Rattle.py_tree.specs.declared.code.Code.{Code}
use Rattle.py_tree.specs.declared.fault.Stop.{Stop}
use Rattle.py_tree.specs.declared.fault.Stop.TheVariants.{Fault, Memory}
use Rattle.py_tree.specs.declared.statement.Module.{Module}
use Rattle.py_blocks.specs.Blocks.{Rows, ModuleAt}
use Rattle.py_blocks.specs.Faults.{Shallow, FaultIn}
use Rattle.py_blocks.specs.Fits.{forms_fit}

-- what is answered is so
abbrev pub Right : Rows → Result Module Stop → Type 0
Right rows (Ok made) = ModuleAt rows (module_of made) × Shallow rows
Right rows (Err (Fault f)) = FaultIn rows f.line f.code
Right rows (Err (Memory error)) = Unit {0}

abbrev pub GivesModule : Result Module Stop → Statements → Type 0
GivesModule (Ok made) body = module_of made ≡ body
GivesModule (Err (Fault f)) body = ⊥
GivesModule (Err (Memory error)) body = Unit {0}

abbrev pub GivesFault : Result Module Stop → ℕ → Code → Type 0
GivesFault (Ok made) line code = ⊥
GivesFault (Err (Fault f)) line code = (f.line ≡ line) × (f.code ≡ code)
GivesFault (Err (Memory error)) line code = Unit {0}

-- what is so is answered
abbrev pub Exact : Rows → Result Module Stop → Type 0
Exact rows answer =
    ((body : Statements) → ModuleAt rows body → Shallow rows → GivesModule answer body)
    × ((line : ℕ) (code : Code) → FaultIn rows line code → GivesFault answer line code)

-- a module of forms is lawful: each statement stands where it may, and no literal is too great where none of the forms has one
abbrev pub Lawful : Rows → Result Module Stop → Type 0
Lawful rows (Ok made) = (all_stand module_level (module_of made) ≡ true) × (forms_fit rows ≡ true → lawful (module_of made) ≡ true)
Lawful rows (Err stop) = Unit {0}
