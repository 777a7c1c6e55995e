-- The functions of a module, in the order of the text: its defs, and where a class stands the class's methods.
use Rattle.std.specs.Prelude.{ℕ, List, [], ◌∷◌, map}
use Rattle.std.specs.List.{flat_map}
use Rattle.py_tree.specs.Syntax as x
use Rattle.py_tree.specs.Syntax.{Statement, Kind, Statements, Function, ClassDef}
use Rattle.py_tree.specs.Order.{of_scope}
use Rattle.symbols.specs.declared.resolved.FunctionLocals.{FunctionLocals}
use Rattle.symbols.specs.Bindings.{locals}

pub record FunctionAt : Type 0 where
  pub line : ℕ
  pub function : Function

abbrev pub kind_def : ℕ → Kind → List FunctionAt
kind_def line (x.Def f) = record { line = line; function = f } ∷ []
kind_def line kind = []

abbrev pub def_of : Statement → List FunctionAt
def_of (x.On line kind) = kind_def line kind

abbrev pub methods_in : ClassDef → List FunctionAt
methods_in (x.Classed name base body) = flat_map def_of (of_scope body)

abbrev pub kind_functions : ℕ → Kind → List FunctionAt
kind_functions line (x.Class c) = methods_in c
kind_functions line kind = kind_def line kind

abbrev pub functions_of : Statement → List FunctionAt
functions_of (x.On line kind) = kind_functions line kind

abbrev pub functions : Statements → List FunctionAt
functions body = flat_map functions_of (of_scope body)

abbrev pub locals_in : List FunctionAt → List FunctionLocals
locals_in fs = map (λ f. record { line = f.line; locals = locals f.function }) fs

-- each with its locals
abbrev pub function_locals : Statements → List FunctionLocals
function_locals body = locals_in (functions body)
