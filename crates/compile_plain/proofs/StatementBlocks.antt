-- The code of statements does what they mean.
use Rattle.std.proofs.Common.{◌≡◌, ℕ, suc, ◌+◌, ◌≤◌, List, [], ◌∷◌, ◌++◌, length, Option, Some, None, refl, sym, subst, arith}
use Rattle.std.specs.Prelude.{slice_get}
use Rattle.py_tree.specs.Syntax as x
use Rattle.py_tree.specs.Syntax.{Text, Expression, Kind, Statements, Branches, Clauses}
use Rattle.gradual_types.specs.declared.py_type.PyType.{PyType}
use Rattle.gradual_types.specs.declared.py_type.PyType.TheVariants.{Dynamic}
use Rattle.gradual_types.specs.Values.{Value}
use Rattle.gradual_types.specs.States.{State}
use Rattle.py_meaning.specs.Acts.{Act, Run, Gives, Halts, Halt, Flow, On, Returned, Broke, Continued, and_then, ◌>>=◌, ◌>>◌, give, tick}
use Rattle.py_meaning.specs.Laws.{end_of}
use Rattle.py_meaning.specs.Modules.{World, Setting, ModuleText, text_of, functions}
use Rattle.py_meaning.specs.Looks.{look}
use Rattle.py_meaning.specs.Operands.{truth}
use Rattle.py_meaning.specs.Boundaries.{From, origin_of}
use Rattle.py_meaning.specs.Calls.{Oracle}
use Rattle.py_meaning.specs.Expressions.{eval}
use Rattle.py_meaning.specs.Targets.{assign}
use Rattle.py_meaning.specs.Exceptions.{takes, in_clause}
use Rattle.py_meaning.specs.Definitions.{set_line}
use Rattle.py_meaning.specs.Statements.{then_on, exec, exec_all, exec_branches, exec_clauses}
use Rattle.py_meaning.specs.Standing.{fuel_left, MakesNoFuel}
use Rattle.py_meaning.proofs.Keeps.{Keeps}
use Rattle.py_meaning.proofs.FuelFalls.{Falls, lines_fall, tests_fall, blocks_fall, turns_fall}
use Rattle.bytecode.specs.declared.instr.Cell.{Cell}
use Rattle.bytecode.specs.declared.instr.Handler.{Handler}
use Rattle.bytecode.specs.declared.instr.Instr.TheVariants as i
use Rattle.bytecode.specs.Moves.{Open, looping, holding, innermost, at_line}
use Rattle.bytecode.specs.Blocks.{Config, At, thrown, going, testing, here}
use Rattle.compile_plain.specs.declared.targets.Targets.{Targets}
use Rattle.compile_plain.specs.Names.{Names, line_in, maybe_variable}
use Rattle.compile_plain.specs.Cells.{cell, in_clauses, in_try, in_while, in_for, line_end, line_code}
use Rattle.compile_plain.specs.Expressions.{expr_end}
use Rattle.compile_plain.specs.Assignments.{assign_end, assign_code}
use Rattle.compile_plain.specs.Statements.{kind_end, rows_end, branches_end, clauses_end, kind_code, rows_code, branches_code, clauses_code}
use Rattle.compile_plain.proofs.Places.{HasAt, has_front, has_behind, expr_length, line_length, assign_length, kind_length, rows_length, branch_length, branches_length, clauses_length, joined, one_more, nothing_more}
use Rattle.compile_plain.proofs.Comes.{Comes, then_comes, then_on_comes, from, acts, cell_step, picks, flowing, extends}
use Rattle.compile_plain.proofs.Sites.{site, names_at, lines}
use Rattle.compile_plain.proofs.ExpressionBlocks.{peel}
use Rattle.compile_plain.proofs.AssignmentBlocks as assignment
use Rattle.compile_plain.proofs.DefinitionBlocks as definition
use Rattle.compile_plain.proofs.LoopBlocks.{while_does, looked_does}
use Rattle.compile_plain.proofs.ClauseBlocks.{raises, raises_again, rescues_do, taken_does}

left_is : (r : Run Value) → fuel_left r ≡ (end_of r).fuel
left_is (Gives s a) = refl
left_is (Halts s why) = refl

module _ (w : World) (m : ℕ) (t : ModuleText) (text : text_of w m ≡ Some t) (long : length (functions t.tree) ≡ length t.facts.signatures) (class : Option ℕ) (locals : Option (List Text)) (result : PyType) (call : Oracle) (fuel : MakesNoFuel call) (code : List Cell) where
  abbrev c : Setting
  c = site w m class locals result

  abbrev names : Names
  names = names_at t class locals

  -- ---- fuel

  calls_fall : (m n : ℕ) (values : List Value) → Keeps Falls (call m n values)
  calls_fall m n values = record { by = λ s. subst (λ (left : ℕ). left ≤ s.fuel) (left_is (call m n values s)) (fuel m n values s) }

  -- ---- lines

  line_set : (h : Handler) (o : Option ℕ) (pc : ℕ) (st : List Value) (around : Open) (s : State) → HasAt code pc (line_code h o) → Comes c call code (At pc st around s) (going (line_end pc o) st around) (thrown c h around) (at_line o s)
  line_set h None pc st around s has = record { by = here }
  line_set h (Some n) pc st around s has = acts c call code has.0 here

  lines_do : (h : Handler) (line pc : ℕ) (st : List Value) (around : Open) (s : State) → HasAt code pc (line_code h (line_in locals line))
      → Comes c call code (At pc st around s) (going (line_end pc (line_in locals line)) st around) (thrown c h around) (set_line c line s)
  lines_do h line pc st around s has =
      subst (λ set. Comes c call code (At pc st around s) (going (line_end pc (line_in locals line)) st around) (thrown c h around) (set s)) (sym (lines w m t text class result locals line))
      (line_set h (line_in locals line) pc st around s has)

  begun : {B : Type 0} {go : B → State → Config} {act : Act B} (h : Handler) (o : Option ℕ) (pc : ℕ) (around : Open) (s : State) → slice_get code pc ≡ Some (cell h (i.Begin o))
      → ((y : State) → Comes c call code (At (pc + 1) [] around y) go (thrown c h around) (act y)) → Comes c call code (At pc [] around s) go (thrown c h around) ((at_line o >> (tick >> act)) s)
  begun h None pc around s e j = then_on_comes c call code {f = going (pc + 1) [] around} (tick s) (acts c call code e here) j
  begun h (Some n) pc around s e j = then_on_comes c call code {f = going (pc + 1) [] around} (tick (record s { line = n })) (acts c call code e here) j

  -- the cell that begins a statement, and what is behind it
  begins : {B : Type 0} {go : B → State → Config} {act : Act B} (h : Handler) (line pc : ℕ) (around : Open) (s : State) → slice_get code pc ≡ Some (cell h (i.Begin (line_in locals line)))
      → ((y : State) → Comes c call code (At (pc + 1) [] around y) go (thrown c h around) (act y)) → Comes c call code (At pc [] around s) go (thrown c h around) ((set_line c line >> (tick >> act)) s)
  begins {go = go} {act = act} h line pc around s e j =
      subst (λ set. Comes c call code (At pc [] around s) go (thrown c h around) ((set >> (tick >> act)) s)) (sym (lines w m t text class result locals line)) (begun h (line_in locals line) pc around s e j)

  -- a statement, and those behind it
  ons_do : (k : Targets) (around : Open) {out : State → Halt → Config} (p q : ℕ) (f : Flow) (act : Act Flow) (y : State) → Comes c call code (At p [] around y) (flowing c call code k q around) out (act y)
      → Comes c call code (flowing c call code k p around f y) (flowing c call code k q around) out (then_on f act y)
  ons_do k around p q On act y d = d
  ons_do k around p q (Returned value) act y d = record { by = here }
  ons_do k around p q Broke act y d = record { by = here }
  ons_do k around p q Continued act y d = record { by = here }

  -- what gives nothing goes on
  and_goes_on : (k : Targets) (around : Open) (q : ℕ) {a : Config} {out : State → Halt → Config} (r : Run (Unit {0})) → Comes c call code a (going q [] around) out r
      → Comes c call code a (flowing c call code k q around) out (and_then r (λ u. give On))
  and_goes_on k around q r d = then_on_comes c call code {m = give On} r d (λ y. record { by = here })

  mutual
    pub exec_does : (held : Option Value) (k : Targets) (line : ℕ) (a : Kind) (pc : ℕ) (around : Open) (s : State) → innermost around.held ≡ held → HasAt code pc (kind_code names k line pc a)
        → Comes c call code (At pc [] around s) (flowing c call code k (kind_end names line pc a) around) (thrown c k.raised around) (exec c call held line a s)
    exec_does held k line x.Pass pc around s is has = record { by = here }
    exec_does held k line x.Break pc around s is has = acts c call code has.0 here
    exec_does held k line x.Continue pc around s is has = acts c call code has.0 here
    exec_does held k line (x.Return None) pc around s is has = acts c call code has.0 (cell_step c call code has.1.0 here)
    exec_does held k line (x.Return (Some e)) pc around s is has =
        peel w m t text class locals result call code k.raised e pc [] around s _ has (λ a y has'. acts c call code has'.0 here)
    exec_does held k line (x.Raise None) pc around s is has = raises_again w m t text class locals result call code k pc around held s is has.0
    exec_does held k line (x.Raise (Some e)) pc around s is has =
        peel w m t text class locals result call code k.raised e pc [] around s _ has (λ a y has'.
        raises w m t text class locals result call code (flowing c call code k (expr_end names pc e + 1 + 1) around) k.raised (expr_end names pc e) around has'.0 has'.1.0 a y)
    exec_does held k line (x.Imports imports) pc around s is has =
        and_goes_on k around (kind_end names line pc (x.Imports imports)) _ (definition.imports_do w m t text long class locals result call code k.raised [] around imports pc s has)
    exec_does held k line (x.From from imports) pc around s is has =
        and_goes_on k around (kind_end names line pc (x.From from imports)) _ (definition.member_imports_do w m t text long class locals result call code k.raised [] around from imports pc s has)
    exec_does held k line (x.Eval e) pc around s is has =
        peel w m t text class locals result call code k.raised e pc [] around s _ has (λ a y has'. acts c call code has'.0 here)
    exec_does held k line (x.Assign target e) pc around s is has =
        peel w m t text class locals result call code k.raised e pc [] around s _ has (λ a y has'.
        and_goes_on k around (assign_end names (expr_end names pc e) target) _ (assignment.assigns w m t text class locals result call code k.raised target (origin_of c e) (expr_end names pc e) a [] around y has'))
    exec_does held k line (x.Annotate target kind None) pc around s is has = record { by = here }
    exec_does held k line (x.Annotate target kind (Some e)) pc around s is has =
        peel w m t text class locals result call code k.raised e pc [] around s _ has (λ a y has'.
        and_goes_on k around (assign_end names (expr_end names pc e) target) _ (assignment.assigns w m t text class locals result call code k.raised target (origin_of c e) (expr_end names pc e) a [] around y has'))
    exec_does held k line (x.Augment target operator e) pc around s is has =
        and_goes_on k around (kind_end names line pc (x.Augment target operator e)) _ (assignment.augments w m t text class locals result call code k.raised target operator e pc [] around s has)
    exec_does held k line (x.If tested orelse) pc around s is has =
        let other = branches_end names pc tested in
        let end = rows_end names other orelse in
        branches_do held k end tested (exec_all c call held orelse) pc around s is (has_front code pc (branches_code names k end pc tested) _ has)
        (λ y. rows_do held k orelse other around y is (has_behind code _ (branches_length names k end tested pc) has))
    exec_does held k line (x.While test body) pc around s is has =
        let first = pc + 1 in
        let turn = rows_end names first body in
        let tested = line_end turn (line_in locals line) in
        let last = expr_end names tested test in
        let inner = in_while k (last + 1) turn in
        let at_line' = has_behind code _ (rows_length names inner body first) has.1 in
        let at_test = has_behind code _ (line_length k.raised (line_in locals line) turn) at_line' in
        from c call code (cell_step c call code has.0 here)
        (while_does c call code k around first turn tested last (set_line c line) (eval c call test >>= truth w) (exec_all c call held body)
        (λ y. lines_do k.raised line turn [] around y (has_front code turn (line_code k.raised (line_in locals line)) _ at_line'))
        (λ y. peel w m t text class locals result call code k.raised test tested [] around y _ at_test (λ a z has'. acts c call code has'.0 here))
        (λ y. rows_do held inner body first around y is (has_front code first (rows_code names inner first body) _ has.1))
        (lines_fall w c.scope line) (tests_fall w calls_fall c.scope test) (blocks_fall w calls_fall c.scope held body) (suc s.fuel) s (omega arith))
    exec_does held k line (x.For target e body) pc around s is has =
        let first = expr_end names pc e + 1 + 1 in
        let begin = assign_end names first target in
        let turn = rows_end names begin body in
        let step = line_end turn (line_in locals line) in
        let inner = in_for k (step + 1) turn in
        peel w m t text class locals result call code k.raised e pc [] around s _ has (λ a y has'.
        let at_body = has_behind code _ (assign_length names inner.raised target first) has'.1.1 in
        let at_line' = has_behind code _ (rows_length names inner body begin) at_body in
        let at_step = has_behind code _ (line_length inner.raised (line_in locals line) turn) at_line' in
        from c call code (cell_step c call code has'.0 here)
        (looked_does c call code k around first turn step (set_line c line) (λ item. assign c call target (From Dynamic) item >> exec_all c call held body) at_step.0 at_step.1.0
        (λ it z. lines_do inner.raised line turn [] (looping it around) z (has_front code turn (line_code inner.raised (line_in locals line)) _ at_line'))
        (λ it item z. then_on_comes c call code _ (assignment.assigns w m t text class locals result call code inner.raised target (From Dynamic) first item [] (looping it around) z (has_front code first (assign_code names inner.raised first target) _ has'.1.1))
        (λ u. rows_do held inner body begin (looping it around) u is (has_front code begin (rows_code names inner begin body) _ at_body)))
        (lines_fall w c.scope line) (λ item. turns_fall w calls_fall c.scope target (From Dynamic) item held body) (expr_end names pc e + 1) has'.1.0 (look w a y)))
    exec_does held k line (x.Try body clauses) pc around s is has =
        let behind = rows_end names pc body in
        let first = line_end (behind + 1) (line_in locals line) in
        let release = clauses_end names first clauses in
        let inner = in_clauses k in
        let jump = has_behind code _ (rows_length names (in_try k (behind + 1)) body pc) has in
        let at_first = has_behind code _ (line_length inner.raised (line_in locals line) (behind + 1)) jump.1 in
        rescues_do w m t text class locals result call code k around behind (release + 1) (exec_all c call held body s) (λ raised e. set_line c line >> exec_clauses c call held raised e clauses) jump.0
        (rows_do held (in_try k (behind + 1)) body pc around s is (has_front code pc (rows_code names (in_try k (behind + 1)) pc body) _ has))
        (λ raised e y. then_on_comes c call code (set_line c line y) (lines_do inner.raised line (behind + 1) [] (holding (record { exception = e; line = raised; variable = None }) around) y (has_front code (behind + 1) (line_code inner.raised (line_in locals line)) _ jump.1)) (λ z.
        clauses_do held k release raised e clauses first around z is (has_behind code _ (clauses_length names inner release clauses first) at_first).0 (has_front code first (clauses_code names inner release first clauses) _ at_first)))
    exec_does held k line (x.Def f) pc around s is has =
        and_goes_on k around (kind_end names line pc (x.Def f)) _ (definition.def_does w m t text long class locals result call code k.raised [] around f pc s has)
    exec_does held k line (x.Class class') pc around s is has =
        and_goes_on k around (kind_end names line pc (x.Class class')) _ (definition.class_does w m t text long class locals result call code k.raised [] around class' pc s has)

    pub rows_do : (held : Option Value) (k : Targets) (rows : Statements) (pc : ℕ) (around : Open) (s : State) → innermost around.held ≡ held → HasAt code pc (rows_code names k pc rows)
        → Comes c call code (At pc [] around s) (flowing c call code k (rows_end names pc rows) around) (thrown c k.raised around) (exec_all c call held rows s)
    rows_do held k x.end_of_statements pc around s is has = record { by = here }
    rows_do held k (x.more_statements (x.On line a) rest) pc around s is has =
        let end = kind_end names line (pc + 1) a in
        begins k.raised line pc around s has.0 (λ y.
        then_comes c call code (exec_does held k line a (pc + 1) around y is (has_front code (pc + 1) (kind_code names k line (pc + 1) a) _ has.1)) (λ f z.
        ons_do k around end (rows_end names end rest) f (exec_all c call held rest) z (rows_do held k rest end around z is (has_behind code _ (kind_length names k line a (pc + 1)) has.1))))

    branches_do : (held : Option Value) (k : Targets) (end : ℕ) (bs : Branches) (orelse : Act Flow) (pc : ℕ) (around : Open) (s : State) → innermost around.held ≡ held → HasAt code pc (branches_code names k end pc bs)
        → ((y : State) → Comes c call code (At (branches_end names pc bs) [] around y) (flowing c call code k end around) (thrown c k.raised around) (orelse y))
        → Comes c call code (At pc [] around s) (flowing c call code k end around) (thrown c k.raised around) (exec_branches c call held bs orelse s)
    branches_do held k end x.end_of_branches orelse pc around s is has j = j s
    branches_do held k end (x.more_branches (x.Tested line test body) rest) orelse pc around s is has j =
        let tested = line_end pc (line_in locals line) in
        let first = expr_end names tested test + 1 in
        let next = rows_end names first body + 1 in
        let here' = has_front code pc _ _ has in
        let at_test = has_behind code _ (line_length k.raised (line_in locals line) pc) here' in
        then_on_comes c call code (set_line c line s) (lines_do k.raised line pc [] around s (has_front code pc (line_code k.raised (line_in locals line)) _ here')) (λ y.
        peel w m t text class locals result call code k.raised test tested [] around y _ at_test (λ a z has'.
        let jump = has_behind code _ (rows_length names k body first) has'.1 in
        then_comes c call code {f = testing first [] next [] around} {r = truth w a z} (acts c call code has'.0 here) (λ b u.
        picks c call code b (exec_all c call held body) (exec_branches c call held rest orelse) u
        (extends c call code k around (rows_end names first body) end _ (rows_do held k body first around u is (has_front code first (rows_code names k first body) _ has'.1)) (λ r. cell_step c call code jump.0 here))
        (branches_do held k end rest orelse next around u is (has_behind code _ (branch_length names k line test body pc _ _) has) j))))

    -- what is raised in the test of a clause goes on as if there were no `try`
    clauses_do : (held : Option Value) (k : Targets) (release raised : ℕ) (e : Value) (clauses : Clauses) (pc : ℕ) (around : Open) (s : State) → innermost around.held ≡ held
        → slice_get code release ≡ Some (cell (in_clauses k).raised i.Release) → HasAt code pc (clauses_code names (in_clauses k) release pc clauses)
        → Comes c call code (At pc [] (holding (record { exception = e; line = raised; variable = None }) around) s) (flowing c call code k (release + 1) around) (thrown c k.raised around) (exec_clauses c call held raised e clauses s)
    clauses_do held k release raised e x.end_of_clauses pc around s is at has = acts c call code has.0 here
    clauses_do held k release raised e (x.more_clauses (x.Except None name body) rest) pc around s is at has =
        let inner = in_clauses k in
        let here' = has_front code pc (cell inner.raised (i.Take (maybe_variable names name)) ∷ (rows_code names inner (pc + 1) body ++ cell inner.raised (i.Jump release) ∷ [])) _ has in
        taken_does w m t text class locals result call code k around release pc (rows_end names (pc + 1) body) raised e name (exec_all c call (Some e) body) s at here'.0 (has_behind code _ (rows_length names inner body (pc + 1)) here'.1).0 (λ y.
        rows_do (Some e) inner body (pc + 1) (holding (record { exception = e; line = raised; variable = maybe_variable names name }) around) y refl (has_front code (pc + 1) (rows_code names inner (pc + 1) body) _ here'.1))
    clauses_do held k release raised e (x.more_clauses (x.Except (Some d) name body) rest) pc around s is at has =
        let inner = in_clauses k in
        let first = expr_end names pc d + 1 in
        let end = rows_end names (first + 1) body in
        let here' = has_front code pc _ _ has in
        peel w m t text class locals result call code inner.raised d pc [] (holding (record { exception = e; line = raised; variable = None }) around) s _ here' (λ a y has'.
        let jump = has_behind code _ (rows_length names inner body (first + 1)) has'.1.1 in
        then_comes c call code {f = testing first [] (end + 1) [] (holding (record { exception = e; line = raised; variable = None }) around)} {r = takes w a e y} (acts c call code has'.0 here) (λ b z.
        picks c call code b (in_clause c name e (exec_all c call (Some e) body)) (exec_clauses c call held raised e rest) z
        (taken_does w m t text class locals result call code k around release first end raised e name (exec_all c call (Some e) body) z at has'.1.0 jump.0 (λ u.
        rows_do (Some e) inner body (first + 1) (holding (record { exception = e; line = raised; variable = maybe_variable names name }) around) u refl (has_front code (first + 1) (rows_code names inner (first + 1) body) _ has'.1.1)))
        (clauses_do held k release raised e rest (end + 1) around z is at (has_behind code _ (joined _ (expr_length names inner.raised d pc) (one_more (one_more (joined (rows_code names inner (first + 1) body) (rows_length names inner body (first + 1)) (one_more nothing_more))))) has))))
