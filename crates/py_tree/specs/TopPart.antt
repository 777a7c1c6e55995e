-- The top part of a module: a text or none, which is its docstring, and then import statements, up to the first other statement.
use Rattle.std.specs.Prelude.{Bool, true, false, if◌then◌else◌, List, [], ◌∷◌}
use Rattle.py_tree.specs.Syntax as x
use Rattle.py_tree.specs.Syntax.{Kind, Statement, Statements}

abbrev pub behind_docstring : Statements → Statements
behind_docstring (x.more_statements (x.On line (x.Eval (x.Str text))) rest) = rest
behind_docstring body = body

abbrev pub is_import : Kind → Bool
is_import (x.Imports names) = true
is_import (x.From from names) = true
is_import kind = false

abbrev pub imports_at_front : Statements → List Statement
imports_at_front x.end_of_statements = []
imports_at_front (x.more_statements (x.On line kind) rest) = if is_import kind then x.On line kind ∷ imports_at_front rest else []

abbrev pub behind_imports : Statements → Statements
behind_imports x.end_of_statements = x.end_of_statements
behind_imports (x.more_statements (x.On line kind) rest) = if is_import kind then behind_imports rest else x.more_statements (x.On line kind) rest

-- the import statements of the top part
abbrev pub top_imports : Statements → List Statement
top_imports body = imports_at_front (behind_docstring body)

abbrev pub below_top_part : Statements → Statements
below_top_part body = behind_imports (behind_docstring body)
