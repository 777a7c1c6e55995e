-- Programs of the examples, written shortly.
use Rattle.std.specs.Prelude.{ℕ, List, [], ◌∷◌, map, codes, Option, Some, None}
use Rattle.py_tree.specs.Joined.{expressions, pairs, keywords, statements, branches, clauses}
use Rattle.py_tree.specs.Syntax as x
use Rattle.py_tree.specs.Syntax.{Text, Expression, Param, Kind, Statement, Statements, Branch, Clause, Function}
use Rattle.py_tree.specs.declared.statement.Import.{Import}

-- ---- expressions

abbrev pub none : Expression
none = x.Nil

abbrev pub int : ℕ → Expression
int n = x.Int n

abbrev pub text : Text → Expression
text points = x.Str points

abbrev pub name : Text → Expression
name n = x.Name n

abbrev pub tuple : List Expression → Expression
tuple es = x.Tuple (expressions es)

abbrev pub list : List Expression → Expression
list es = x.Listed (expressions es)

abbrev pub dict : List (Expression × Expression) → Expression
dict ps = x.Dict (pairs (map (λ p. x.Paired p.0 p.1) ps))

abbrev pub call_with : Expression → List Expression → List (Text × Expression) → Expression
call_with callee args keys = x.Call callee (expressions args) (keywords (map (λ k. x.Named k.0 k.1) keys))

abbrev pub call : Expression → List Expression → Expression
call callee args = call_with callee args []

-- ---- statements

abbrev pub block : List Statement → Statements
block ss = statements ss

abbrev pub on : ℕ → Kind → Statement
on line kind = x.On line kind

abbrev pub imported : Text → Import
imported n = record { name = n; alias = None }

abbrev pub imported_as : Text → Text → Import
imported_as n alias = record { name = n; alias = Some alias }

abbrev pub marker : Kind
marker = x.Imports (imported (codes "__strict__") ∷ [])

abbrev pub tested : ℕ → Expression → Statements → Branch
tested line test body = x.Tested line test body

abbrev pub if_or : List Branch → Statements → Kind
if_or bs orelse = x.If (branches bs) orelse

abbrev pub except : Option Expression → Option Text → Statements → Clause
except matches n body = x.Except matches n body

abbrev pub try_or : Statements → List Clause → Kind
try_or body cs = x.Try body (clauses cs)

-- ---- functions and classes

abbrev pub param : Text → Param
param n = record { name = n; kind = None; default = None }

abbrev pub param_or : Text → Expression → Param
param_or n e = record { name = n; kind = None; default = Some e }

abbrev pub function : Text → List Param → Statements → Function
function n params body = x.Defined n params None body

abbrev pub class : Text → Option Expression → Statements → Kind
class n base body = x.Class (x.Classed n base body)
