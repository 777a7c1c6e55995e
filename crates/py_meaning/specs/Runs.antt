-- Whole runs: what functions do with so much fuel, the body of a module, and a call from outside.
use Rattle.std.specs.Prelude.{ℕ, zero, suc, ◌+◌, List, [], ◌∷◌, map, true, Option, Some, None}
use Rattle.py_tree.specs.Syntax as x
use Rattle.py_tree.specs.Syntax.{Text, Function, Statements}
use Rattle.symbols.specs.Bindings.{globals, locals}
use Rattle.gradual_types.specs.declared.py_type.PyType.TheVariants.{Dynamic, Nil}
use Rattle.gradual_types.specs.Values as v
use Rattle.gradual_types.specs.Values.{Value, Content}
use Rattle.gradual_types.specs.States.{State, Variable}
use Rattle.py_meaning.specs.Acts.{Act, Run, Gives, Halts, Flow, Returned, Spent, ◌>>=◌, ◌>>◌, give, halt, tick}
use Rattle.py_meaning.specs.Modules.{World, Scope, Setting, Loaded, KnownFunction, function_of}
use Rattle.py_meaning.specs.Looks.{look, type_error}
use Rattle.py_meaning.specs.TextForms.{repr}
use Rattle.py_meaning.specs.Boundaries.{From, pass}
use Rattle.py_meaning.specs.Arguments.{Argument}
use Rattle.py_meaning.specs.Calls.{Oracle}
use Rattle.py_meaning.specs.Expressions.{called}
use Rattle.py_meaning.specs.Statements.{exec_all}

abbrev pub unbound : List Text → List Variable
unbound names = map (λ name. record { name = name; value = None }) names

-- ---- functions

-- the locals of a function: its parameters with these values, and its other names unbound
abbrev pub opened_locals : List Text → List Value → List Variable
opened_locals [] values = []
opened_locals (name ∷ names) [] = record { name = name; value = None } ∷ opened_locals names []
opened_locals (name ∷ names) (value ∷ values) = record { name = name; value = Some value } ∷ opened_locals names values

-- at the end of a function that doesn't return its result is None
abbrev pub result_of : Setting → Flow → Act Value
result_of c (Returned value) = give value
result_of c other = pass c (From Nil) c.scope.result v.Nil

-- however the function ends, the caller's locals and frames are as before
abbrev pub back_in : State → Run Value → Run Value
back_in caller (Gives s value) = Gives (record s { locals = caller.locals; depth = caller.depth }) value
back_in caller (Halts s why) = Halts (record s { locals = caller.locals; depth = caller.depth }) why

abbrev pub function_scope : ℕ → KnownFunction → Scope
function_scope m f = record { «module» = m; class = f.class; locals = Some (locals f.function); result = f.signature.result }

abbrev pub body_of : Function → Statements
body_of (x.Defined name params result body) = body

abbrev pub run_function : World → Oracle → ℕ → Option KnownFunction → List Value → Act Value
run_function w call m None values = type_error w
run_function w call m (Some f) values = λ s.
    back_in s ((exec_all c call None (body_of f.function) >>= result_of c) (record s { locals = opened_locals (locals f.function) values; depth = s.depth + 1 })) where
      c : Setting
      c = record { world = w; scope = function_scope m f }

-- what the functions do, with calls at most so deep; each costs 1, so that the fuel ends before them
abbrev pub meaning : World → ℕ → Oracle
meaning w zero m n values = halt Spent
meaning w (suc calls) m n values = run_function w (meaning w calls) m (function_of w m n) values

-- ---- the body of a module

abbrev pub module_scope : ℕ → Scope
module_scope m = record { «module» = m; class = None; locals = None; result = Dynamic }

abbrev pub body_setting : World → ℕ → Setting
body_setting w m = record { world = w; scope = module_scope m }

abbrev pub run_body : World → ℕ → State → Run Flow
run_body w m s = exec_all (body_setting w m) (meaning w (suc s.fuel)) None w.own.tree s

abbrev pub image_objects : Option Loaded → List Content
image_objects None = []
image_objects (Some l) = l.image.objects

abbrev pub opened_objects : List (Option Loaded) → List (List Content)
opened_objects images = map image_objects images

-- before a run, with so many frames
abbrev pub start : World → List Text → ℕ → ℕ → State
start w names frames fuel = record {
  own = [];
  others = opened_objects w.images;
  locals = [];
  globals = unbound names;
  defaults = [];
  output = [];
  fuel = fuel;
  depth = frames;
  line = 0;
  checks = 0;
  sound = true;
}

-- a body has the first frame
abbrev pub body_start : World → ℕ → State
body_start w fuel = start w (globals w.own.tree) 1 fuel

-- ---- a call from outside

abbrev pub outer_scope : Scope
outer_scope = record { «module» = 0; class = None; locals = Some []; result = Dynamic }

abbrev pub outer_setting : World → Setting
outer_setting w = record { world = w; scope = outer_scope }

abbrev pub outer_argument : Value → Argument
outer_argument value = record { name = None; value = value; origin = From Dynamic }

abbrev pub call_from_outside : World → Value → List Value → Act Value
call_from_outside w callee args = tick >> (λ s. (look w callee >>= called (outer_setting w) (meaning w (suc s.fuel)) (map outer_argument args)) s)

-- the call, and then the `repr` of its value, at the cost of its code points alone
abbrev pub shown_from_outside : World → Value → List Value → Act Text
shown_from_outside w callee args = call_from_outside w callee args >>= repr w 100
