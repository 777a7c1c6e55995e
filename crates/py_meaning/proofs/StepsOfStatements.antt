-- What steps meet is met by statements, and by functions and modules as they are run.
use Rattle.std.specs.Prelude.{ℕ, zero, suc, List, map, Option, Some, None}
use Rattle.py_tree.specs.Syntax as x
use Rattle.py_tree.specs.Syntax.{Kind, Statements, Branches, Clauses}
use Rattle.symbols.specs.Bindings.{locals}
use Rattle.gradual_types.specs.declared.py_type.PyType.TheVariants.{Dynamic, Nil}
use Rattle.gradual_types.specs.Values as v
use Rattle.gradual_types.specs.Values.{Value}
use Rattle.py_meaning.specs.Acts.{Act, Spent, Flow, On, Returned, Broke, Continued}
use Rattle.py_meaning.specs.Modules.{World, Scope, KnownFunction, function_of}
use Rattle.py_meaning.specs.Boundaries.{From, origin_of}
use Rattle.py_meaning.specs.Calls.{Oracle}
use Rattle.py_meaning.specs.Statements.{then_on, exec, exec_all, exec_branches, exec_clauses}
use Rattle.py_meaning.specs.Runs.{opened_locals, result_of, function_scope, body_of, run_function, meaning, module_scope, run_body, outer_scope, outer_argument, call_from_outside}
use Rattle.py_meaning.proofs.Steps.{Steps, Ticked, Both, Kept, ticked, at, seq, chosen, errs, looks}
use Rattle.py_meaning.proofs.StepsOfOperators.{truths}
use Rattle.py_meaning.proofs.StepsOfNames.{passes}
use Rattle.py_meaning.proofs.StepsOfLoops.{overs, whiles}
use Rattle.py_meaning.proofs.StepsOfCalls.{calls}
use Rattle.py_meaning.proofs.StepsOfExpressions.{evals}
use Rattle.py_meaning.proofs.StepsOfTargets.{takes_kept, clauses_kept, imports_modules, imports_members, raises_again, raises_by, assigns, augments, defs, classes}

module _ {w : World} (q : Steps w) where
  pub ons : (ended : Flow) {next next' : Act Flow} → Both q next next' → Both q (then_on ended next) (then_on ended next')
  ons On h = h
  ons Broke h = q.gives Broke
  ons Continued h = q.gives Continued
  ons (Returned value) h = q.gives (Returned value)

  pub results : (k : Scope) (ended : Flow) → Kept q (result_of (at w k) ended)
  results k (Returned value) = q.gives value
  results k _ = passes q k (From Nil) k.result v.Nil

module _ {w : World} {p q : Steps w} (t : Ticked p q) {call call' : Oracle} (hc : (m n : ℕ) (values : List Value) → Both p (call m n values) (call' m n values)) where
  mutual
    pub execs : (k : Scope) (held : Option Value) (line : ℕ) (m : Kind) → Both q (exec (at w k) call held line m) (exec (at w k) call' held line m)
    execs k held line x.Pass = q.gives On
    execs k held line x.Break = q.gives Broke
    execs k held line x.Continue = q.gives Continued
    execs k held line (x.Return None) = q.bind (passes q k (From Nil) k.result v.Nil) (λ value. q.gives (Returned value))
    execs k held line (x.Return (Some e)) = q.bind (evals t hc k e) (λ value. q.bind (passes q k (origin_of (at w k) e) k.result value) (λ passed. q.gives (Returned passed)))
    execs k held line (x.Raise None) = raises_again q held
    execs k held line (x.Raise (Some e)) = q.bind (evals t hc k e) (λ value. q.bind (looks q value) (raises_by t hc k value))
    execs k held line (x.Imports is) = seq q (imports_modules q k is) (q.gives On)
    execs k held line (x.From from is) = seq q (imports_members q k from is) (q.gives On)
    execs k held line (x.Eval e) = seq q (evals t hc k e) (q.gives On)
    execs k held line (x.Assign target e) = q.bind (evals t hc k e) (λ value. q.bind (assigns t hc k target (origin_of (at w k) e) value) (λ a. q.gives On))
    execs k held line (x.Annotate target kind None) = q.gives On
    execs k held line (x.Annotate target kind (Some e)) = q.bind (evals t hc k e) (λ value. q.bind (assigns t hc k target (origin_of (at w k) e) value) (λ a. q.gives On))
    execs k held line (x.Augment target operator e) = seq q (augments t hc k target operator (evals t hc k e)) (q.gives On)
    execs k held line (x.If tested orelse) = execs_branches k held tested (execs_all k held orelse)
    execs k held line (x.While test body) = q.at_state (λ s. whiles q (q.sets_line (at w k) line) (q.bind (evals t hc k test) (truths q)) (execs_all k held body) (suc s.fuel))
    execs k held line (x.For target e body) =
        q.bind (evals t hc k e) (λ value. q.bind (looks q value) (λ a.
        overs q (q.sets_line (at w k) line) (λ item. seq q (assigns t hc k target (From Dynamic) item) (execs_all k held body)) a))
    execs k held line (x.Try body clauses) = q.rescues (execs_all k held body) (λ raised e. seq q (q.sets_line (at w k) line) (execs_clauses k held raised e clauses))
    execs k held line (x.Def f) = seq q (defs t hc k f) (q.gives On)
    execs k held line (x.Class c) = seq q (classes t hc k c) (q.gives On)

    pub execs_all : (k : Scope) (held : Option Value) (body : Statements) → Both q (exec_all (at w k) call held body) (exec_all (at w k) call' held body)
    execs_all k held x.end_of_statements = q.gives On
    execs_all k held (x.more_statements (x.On line m) rest) =
        q.bind (q.sets_line (at w k) line) (λ a. q.bind (q.pays 1) (λ b. q.bind (execs k held line m) (λ ended. ons q ended (execs_all k held rest))))

    pub execs_branches : (k : Scope) (held : Option Value) (bs : Branches) {orelse orelse' : Act Flow} → Both q orelse orelse'
        → Both q (exec_branches (at w k) call held bs orelse) (exec_branches (at w k) call' held bs orelse')
    execs_branches k held x.end_of_branches h = h
    execs_branches k held (x.more_branches (x.Tested line test body) rest) h =
        q.bind (q.sets_line (at w k) line) (λ a. q.bind (evals t hc k test) (λ value. q.bind (truths q value) (λ holds.
        chosen q holds (execs_all k held body) (execs_branches k held rest h))))

    pub execs_clauses : (k : Scope) (held : Option Value) (raised : ℕ) (e : Value) (cs : Clauses) → Both q (exec_clauses (at w k) call held raised e cs) (exec_clauses (at w k) call' held raised e cs)
    execs_clauses k held raised e x.end_of_clauses = q.passes_on raised e
    execs_clauses k held raised e (x.more_clauses (x.Except None name body) rest) = clauses_kept q k name e (execs_all k (Some e) body)
    execs_clauses k held raised e (x.more_clauses (x.Except (Some matches) name body) rest) =
        q.bind (evals t hc k matches) (λ value. q.bind (takes_kept q value e) (λ taken.
        chosen q taken (clauses_kept q k name e (execs_all k (Some e) body)) (execs_clauses k held raised e rest)))

  pub functions : (m : ℕ) (f : Option KnownFunction) (values : List Value) → Both q (run_function w call m f values) (run_function w call' m f values)
  functions m None values = errs q
  functions m (Some f) values = q.frames (opened_locals (locals f.function) values) (q.bind (execs_all (function_scope m f) None (body_of f.function)) (results q (function_scope m f)))

-- ---- whole runs

module _ {w : World} (q : Steps w) where
  pub meanings : (calls m n : ℕ) (values : List Value) → Kept q (meaning w calls m n values)
  meanings zero m n values = q.halts Spent
  meanings (suc calls) m n values = functions (ticked q) (meanings calls) m (function_of w m n) values

  pub bodies : (m : ℕ) → Kept q (run_body w m)
  bodies m = q.at_state (λ s. execs_all (ticked q) (meanings (suc s.fuel)) (module_scope m) None w.own.tree)

  pub outer_calls : (callee : Value) (args : List Value) → Kept q (call_from_outside w callee args)
  outer_calls callee args = seq q (q.pays 1) (q.at_state (λ s. q.bind (looks q callee) (calls q (meanings (suc s.fuel)) outer_scope (map outer_argument args))))
