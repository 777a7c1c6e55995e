-- Raising and taking exceptions.
use Rattle.std.specs.Prelude.{ℕ, Bool, false, List, [], ◌∷◌, Option, Some, None}
use Rattle.std.specs.List.{list_any}
use Rattle.py_tree.specs.Syntax.{Text}
use Rattle.py_values.specs.declared.class_id.ClassId.{ClassId}
use Rattle.gradual_types.specs.declared.py_type.PyType.TheVariants.{Dynamic}
use Rattle.gradual_types.specs.Values.{Value}
use Rattle.gradual_types.specs.States.{State, with_value}
use Rattle.py_meaning.specs.Acts.{Act, Run, Gives, Halts, Raised, Flow, ◌>>=◌, ◌>>◌, give, halt, done, tick, choose}
use Rattle.py_meaning.specs.Modules.{World, Setting}
use Rattle.py_meaning.specs.Classes.{is_below, is_exception}
use Rattle.py_meaning.specs.Looks as seen
use Rattle.py_meaning.specs.Looks.{Seen, look, type_error}
use Rattle.py_meaning.specs.Boundaries.{From}
use Rattle.py_meaning.specs.Calls.{Oracle, construct}
use Rattle.py_meaning.specs.Builtins.{look_all}
use Rattle.py_meaning.specs.Targets.{assign_name}

-- ---- `raise E`

-- an exception class is called without arguments
abbrev pub raised_by : Setting → Oracle → Value → Seen → Act Flow
raised_by c call e (seen.Class class) =
    choose (is_exception c.world class) (tick >> construct c call class [] >>= λ made. halt (Raised made)) (type_error c.world)
raised_by c call e (seen.Instance h n class slots) = choose (is_exception c.world class) (halt (Raised e)) (type_error c.world)
raised_by c call e other = type_error c.world

-- ---- `raise`

-- what the innermost except clause around has taken
abbrev pub raised_again : World → Option Value → Act Flow
raised_again w None = type_error w
raised_again w (Some e) = halt (Raised e)

-- ---- which exceptions a clause takes

-- all are exception classes
abbrev pub exception_classes : World → List Seen → Act (List ClassId)
exception_classes w [] = give []
exception_classes w (seen.Class class ∷ rest) = do
  choose (is_exception w class) done (type_error w)
  classes ← exception_classes w rest
  give (class ∷ classes)
exception_classes w (other ∷ rest) = type_error w

-- one class, or those of a tuple, which are all looked at first
abbrev pub classes_in : World → Seen → Act (List ClassId)
classes_in w (seen.Tuple vs) = look_all w vs >>= exception_classes w
classes_in w a = exception_classes w (a ∷ [])

abbrev pub is_taken : World → List ClassId → Seen → Bool
is_taken w classes (seen.Instance h n class slots) = list_any (is_below w class) classes
is_taken w classes other = false

-- whether a clause with this expression takes the exception
abbrev pub takes : World → Value → Value → Act Bool
takes w matches e = do
  a ← look w matches
  classes ← classes_in w a
  exception ← look w e
  give (is_taken w classes exception)

-- ---- `try`

-- what is raised goes to the clauses, with the line at which it was raised
abbrev pub rescued : Run Flow → (ℕ → Value → Act Flow) → Run Flow
rescued (Halts s (Raised e)) clauses = clauses s.line e s
rescued ended clauses = ended

-- it goes on, as raised at that line
abbrev pub passed_on : ℕ → Value → Act Flow
passed_on line e = λ s. Halts (record s { line = line }) (Raised e)

abbrev pub bind_some : Setting → Option Text → Value → Act (Unit {0})
bind_some c None e = done
bind_some c (Some name) e = assign_name c name (From Dynamic) e

abbrev pub unbind : Setting → Option Text → State → State
unbind c None s = s
unbind c (Some name) s = in_scope c.scope.locals where
  in_scope : Option (List Text) → State
  in_scope None = record s { globals = with_value name None s.globals }
  in_scope (Some names) = record s { locals = with_value name None s.locals }

-- the name of a clause is unbound when its body is left; where the run has ended there is nothing to leave
abbrev pub unbound_behind : Setting → Option Text → Run Flow → Run Flow
unbound_behind c name (Gives s flow) = Gives (unbind c name s) flow
unbound_behind c name (Halts s (Raised e)) = Halts (unbind c name s) (Raised e)
unbound_behind c name (Halts s other) = Halts s other

abbrev pub in_clause : Setting → Option Text → Value → Act Flow → Act Flow
in_clause c name e body = λ s. unbound_behind c name ((bind_some c name e >> body) s)
