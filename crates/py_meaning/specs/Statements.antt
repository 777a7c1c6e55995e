-- What a statement does.
use Rattle.std.specs.Prelude.{ℕ, suc, Option, Some, None}
use Rattle.py_tree.specs.Syntax as x
use Rattle.py_tree.specs.Syntax.{Expression, Kind, Statements, Branches, Clauses}
use Rattle.gradual_types.specs.declared.py_type.PyType.TheVariants.{Dynamic, Nil}
use Rattle.gradual_types.specs.Values as v
use Rattle.gradual_types.specs.Values.{Value}
use Rattle.py_meaning.specs.Acts.{Act, Flow, On, Returned, Broke, Continued, ◌>>=◌, ◌>>◌, give, tick, choose}
use Rattle.py_meaning.specs.Modules.{Setting}
use Rattle.py_meaning.specs.Looks.{look}
use Rattle.py_meaning.specs.Operands.{truth}
use Rattle.py_meaning.specs.Boundaries.{From, pass, origin_of}
use Rattle.py_meaning.specs.Iterables.{over, while_true}
use Rattle.py_meaning.specs.Calls.{Oracle}
use Rattle.py_meaning.specs.Expressions.{eval}
use Rattle.py_meaning.specs.Targets.{assign, augment}
use Rattle.py_meaning.specs.Exceptions.{raised_by, raised_again, takes, rescued, passed_on, in_clause}
use Rattle.py_meaning.specs.Definitions.{set_line, def_statement, class_statement}
use Rattle.py_meaning.specs.Imports.{import_modules, import_members}

-- the next statement is begun where the one before it didn't leave the block
abbrev pub then_on : Flow → Act Flow → Act Flow
then_on On next = next
then_on other next = give other

abbrev pub and_on : Act (Unit {0}) → Act Flow
and_on act = act >> give On

-- `held` is the exception that the innermost except clause around has taken
abbrev mutual
  pub exec : Setting → Oracle → Option Value → ℕ → Kind → Act Flow
  exec c call held line x.Pass = give On
  exec c call held line x.Break = give Broke
  exec c call held line x.Continue = give Continued
  exec c call held line (x.Return None) = pass c (From Nil) c.scope.result v.Nil >>= λ value. give (Returned value)
  exec c call held line (x.Return (Some e)) = do
    value ← eval c call e
    passed ← pass c (origin_of c e) c.scope.result value
    give (Returned passed)
  exec c call held line (x.Raise None) = raised_again c.world held
  exec c call held line (x.Raise (Some e)) = do
    value ← eval c call e
    a ← look c.world value
    raised_by c call value a
  exec c call held line (x.Imports is) = and_on (import_modules c is)
  exec c call held line (x.From from is) = and_on (import_members c from is)
  exec c call held line (x.Eval e) = eval c call e >> give On
  exec c call held line (x.Assign target e) = do
    value ← eval c call e
    assign c call target (origin_of c e) value
    give On
  exec c call held line (x.Annotate target kind None) = give On
  exec c call held line (x.Annotate target kind (Some e)) = do
    value ← eval c call e
    assign c call target (origin_of c e) value
    give On
  exec c call held line (x.Augment target operator e) = and_on (augment c call target operator (eval c call e))
  exec c call held line (x.If tested orelse) = exec_branches c call held tested (exec_all c call held orelse)
  exec c call held line (x.While test body) = λ s. while_true (set_line c line) (eval c call test >>= truth c.world) (exec_all c call held body) (suc s.fuel) s
  exec c call held line (x.For target e body) = do
    value ← eval c call e
    a ← look c.world value
    over c.world (set_line c line) (λ item. assign c call target (From Dynamic) item >> exec_all c call held body) a
  exec c call held line (x.Try body clauses) = λ s. rescued (exec_all c call held body s) (λ raised e. set_line c line >> exec_clauses c call held raised e clauses)
  exec c call held line (x.Def f) = and_on (def_statement c call f)
  exec c call held line (x.Class class) = and_on (class_statement c call class)

  pub exec_all : Setting → Oracle → Option Value → Statements → Act Flow
  exec_all c call held x.end_of_statements = give On
  exec_all c call held (x.more_statements (x.On line kind) rest) = do
    set_line c line
    tick
    ended ← exec c call held line kind
    then_on ended (exec_all c call held rest)

  pub exec_branches : Setting → Oracle → Option Value → Branches → Act Flow → Act Flow
  exec_branches c call held x.end_of_branches orelse = orelse
  exec_branches c call held (x.more_branches (x.Tested line test body) rest) orelse = do
    set_line c line
    value ← eval c call test
    holds ← truth c.world value
    choose holds (exec_all c call held body) (exec_branches c call held rest orelse)

  -- the clauses of an exception that was raised at that line
  pub exec_clauses : Setting → Oracle → Option Value → ℕ → Value → Clauses → Act Flow
  exec_clauses c call held raised e x.end_of_clauses = passed_on raised e
  exec_clauses c call held raised e (x.more_clauses (x.Except None name body) rest) = in_clause c name e (exec_all c call (Some e) body)
  exec_clauses c call held raised e (x.more_clauses (x.Except (Some matches) name body) rest) = do
    value ← eval c call matches
    taken ← takes c.world value e
    choose taken (in_clause c name e (exec_all c call (Some e) body)) (exec_clauses c call held raised e rest)
