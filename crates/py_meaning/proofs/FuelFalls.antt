-- Evaluation makes no fuel, where its calls make none.
use Rattle.std.specs.Prelude.{ℕ, ◌≤◌, List, Option}
use Rattle.py_tree.specs.Syntax.{Expression, Target, Statements}
use Rattle.gradual_types.specs.Values.{Value}
use Rattle.gradual_types.specs.States.{State}
use Rattle.py_meaning.specs.Acts.{◌>>=◌, ◌>>◌}
use Rattle.py_meaning.specs.Modules.{World, Scope}
use Rattle.py_meaning.specs.Operands.{truth}
use Rattle.py_meaning.specs.Boundaries.{Origin}
use Rattle.py_meaning.specs.Calls.{Oracle}
use Rattle.py_meaning.specs.Definitions.{set_line}
use Rattle.py_meaning.specs.Expressions.{eval}
use Rattle.py_meaning.specs.Targets.{assign}
use Rattle.py_meaning.specs.Statements.{exec_all}
use Rattle.py_meaning.proofs.Steps.{ticked, at}
use Rattle.py_meaning.proofs.StepsOfOperators.{truths}
use Rattle.py_meaning.proofs.StepsOfExpressions.{evals}
use Rattle.py_meaning.proofs.StepsOfTargets.{assigns}
use Rattle.py_meaning.proofs.StepsOfStatements.{execs_all}
use Rattle.py_meaning.proofs.Keeps.{Keeps, binds, steps}
use Rattle.py_meaning.proofs.RunLaws.{fuel_falls}

abbrev pub Falls : State → State → Type 0
Falls s t = t.fuel ≤ s.fuel

pub lines_fall : (w : World) (k : Scope) (line : ℕ) → Keeps Falls (set_line (at w k) line)
unfolding steps
lines_fall w k line = (steps (fuel_falls w)).sets_line (at w k) line

module _ (w : World) {call : Oracle} (calls : (m n : ℕ) (values : List Value) → Keeps Falls (call m n values)) (k : Scope) where
  pub expressions_fall : (e : Expression) → Keeps Falls (eval (at w k) call e)
  unfolding steps
  expressions_fall e = evals (ticked (steps (fuel_falls w))) {call = call} {call' = call} calls k e

  pub tests_fall : (e : Expression) → Keeps Falls (eval (at w k) call e >>= truth w)
  unfolding steps
  tests_fall e = binds (fuel_falls w) (expressions_fall e) (truths (steps (fuel_falls w)))

  pub blocks_fall : (held : Option Value) (body : Statements) → Keeps Falls (exec_all (at w k) call held body)
  unfolding steps
  blocks_fall held body = execs_all (ticked (steps (fuel_falls w))) {call = call} {call' = call} calls k held body

  assignments_fall : (target : Target) (origin : Origin) (item : Value) → Keeps Falls (assign (at w k) call target origin item)
  unfolding steps
  assignments_fall target origin item = assigns (ticked (steps (fuel_falls w))) {call = call} {call' = call} calls k target origin item

  -- a turn of a `for`
  pub turns_fall : (target : Target) (origin : Origin) (item : Value) (held : Option Value) (body : Statements) → Keeps Falls (assign (at w k) call target origin item >> exec_all (at w k) call held body)
  turns_fall target origin item held body = binds (fuel_falls w) (assignments_fall target origin item) (λ u. blocks_fall held body)
