-- The code of a module stands for its trees, and leads forward.
use Rattle.std.specs.Prelude.{◌≡◌, ℕ, true, List, map, Option, Some, None}
use Rattle.py_tree.specs.Syntax.{Text, Statements}
use Rattle.symbols.specs.Bindings.{locals}
use Rattle.symbols.specs.Classes.{classes}
use Rattle.symbols.specs.declared.class.Class.{Class}
use Rattle.symbols.specs.declared.outer.Outer.{Outer}
use Rattle.gradual_types.specs.declared.facts.Facts.{Facts}
use Rattle.py_meaning.specs.ModuleFacts.{facts_of}
use Rattle.py_meaning.specs.Modules.{ModuleText, Loaded, FunctionIn, functions}
use Rattle.py_meaning.specs.Runs.{body_of}
use Rattle.py_meaning.specs.Standing.{StandsFor}
use Rattle.bytecode.specs.declared.instr.Cell.{Cell}
use Rattle.bytecode.specs.Blocks.{Does}
use Rattle.bytecode.specs.Forward.{forwards}
use Rattle.compile_plain.specs.Names.{Names}
use Rattle.compile_plain.specs.Statements.{body_code}

-- the names of a scope of a module
abbrev pub names_in : Outer → Statements → Option ℕ → Option (List Text) → Names
names_in o tree class locals = record { tree = tree; classes = map (λ (class : Class). class.name) (classes o tree); class = class; locals = locals }

abbrev pub module_code : Outer → Statements → List Cell
module_code o tree = body_code (names_in o tree None None) tree

abbrev pub function_code : Outer → Statements → FunctionIn → List Cell
function_code o tree f = body_code (names_in o tree f.class (Some (locals f.function))) (body_of f.function)

-- what is known of a module, over the facts of the others
abbrev pub text_in : List (Option Facts) → Outer → Statements → ModuleText
text_in others o tree = record { tree = tree; facts = facts_of others o tree }

-- these blocks, over all images that agree with what the module was resolved against
abbrev pub StandsIn : Outer → Statements → List Cell → List (List Cell) → Type 0
StandsIn o tree body blocks =
    (others : List (Option Facts)) (need : List ℕ) (images : List (Option Loaded)) → StandsFor (List Cell) Does o.number (text_in others o tree) need images body blocks

-- the code of every module does
abbrev pub CodeStands : Type 0
CodeStands = (o : Outer) (tree : Statements) → StandsIn o tree (module_code o tree) (map (function_code o tree) (functions tree))

-- the code of every body leads forward: only a loop's turn leads back
abbrev pub BodiesForward : Type 0
BodiesForward = (names : Names) (body : Statements) → forwards 0 (body_code names body) ≡ true
