-- Which rows begin a module: those that the machine reads.
use Rattle.std.proofs.Common.{◌≡◌, ◌+◌, ℕ, true, List, [], ◌∷◌, ◌++◌, Option, Some, None, refl, sym, ap, subst, ◌∙◌, arith}
use Rattle.py_tree.specs.Syntax as x
use Rattle.py_tree.specs.Syntax.{Statement, Statements}
use Rattle.py_tree.specs.Lawful.{module_level}
use Rattle.py_expr.specs.Forms as form
use Rattle.py_blocks.specs.Blocks.{Rows, row, Context, Code, ClassFront, ClassRest, StatementsAt, BodyAt, ModuleAt, simple_stands, no_statement, a_simple, beside, below, no_elif, last_clause}
use Rattle.py_blocks.specs.Faults.{Begins}
use Rattle.py_blocks.specs.Machine.{Owner, Last, Whole, OpenIf, OpenTry, Frame, State, onto, branches_onto, clauses_onto, alone, inside, claused, put, and_then, step, run, finish, start}
use Rattle.py_blocks.proofs.Remains.{Ends, no_more, more, Tail, Up, Completes}
use Rattle.py_blocks.proofs.Complete.{reads}
use Rattle.py_blocks.proofs.Sound.{RunBack, run_back, FinishBack, finish_back}

-- ---- each state can be completed

passes : (c : Context) → simple_stands c x.Pass ≡ true
passes (Code p) = refl
passes ClassFront = refl
passes ClassRest = refl

abbrev passed : Statements
passed = alone (x.On 0 x.Pass)

-- the rows that end a block, before the rows r
abbrev ending_rows : ℕ → Last → Rows → Rows
ending_rows i Whole r = r
ending_rows i (OpenIf n bs) r = r
ending_rows i (OpenTry n tried []) r = row i 0 (form.Header (form.Except None None) (Some x.Pass)) ∷ r
ending_rows i (OpenTry n tried (c ∷ cs)) r = r

abbrev ending_body : List Statement → Last → Statements
ending_body done Whole = onto done x.end_of_statements
ending_body done (OpenIf n bs) = onto (x.On n (x.If (branches_onto bs x.end_of_branches) x.end_of_statements) ∷ done) x.end_of_statements
ending_body done (OpenTry n tried []) = onto (x.On n (x.Try tried (x.more_clauses (x.Except None None passed) x.end_of_clauses)) ∷ done) x.end_of_statements
ending_body done (OpenTry n tried (c ∷ cs)) = onto (x.On n (x.Try tried (clauses_onto (c ∷ cs) x.end_of_clauses)) ∷ done) x.end_of_statements

ends_here : (i : ℕ) (c : Context) (done : List Statement) (r : Rows) → Ends i c done r r (onto done x.end_of_statements)
ends_here i c done r = (x.end_of_statements, no_statement, refl)

can_end : (i : ℕ) (c : Context) (done : List Statement) (l : Last) (r : Rows) → Tail i c done l (ending_rows i l r) r (ending_body done l)
can_end i c done Whole r = ends_here i c done r
can_end i c done (OpenIf n bs) r = (r, x.end_of_branches, x.end_of_statements, no_elif, (x.end_of_statements, no_statement, refl))
can_end i c done (OpenTry n tried []) r = (r, x.more_clauses (x.Except None None passed) x.end_of_clauses, more refl (last_clause (beside (passes (claused c)))), (x.end_of_statements, no_statement, refl))
can_end i c done (OpenTry n tried (k ∷ cs)) r = (r, x.end_of_clauses, no_more, (x.end_of_statements, no_statement, refl))

can_go_up : (fs : List Frame) (body : Statements) → (r : Rows) × (whole : Statements) × Up fs r body whole
can_go_up [] body = ([], body, (refl, refl))
can_go_up (f ∷ fs) body =
    let b = put f.owner body f.block in
    let outer = ending_body b.done b.last in
    let u = can_go_up fs outer in
    (ending_rows b.indent b.last u.0, u.1, (u.0, outer, can_end b.indent b.context b.done b.last u.0, u.2))

can_complete : (st : State) → (s : Rows) × (whole : Statements) × Completes st s whole
can_complete st = go st.waiting
  where
    go : (o : Option Owner) → (s : Rows) × (whole : Statements) × Completes (record { inner = st.inner; outer = st.outer; waiting = o }) s whole
    go None =
        let b = st.inner in
        let u = can_go_up st.outer (ending_body b.done b.last) in
        (ending_rows b.indent b.last u.0, u.1, (u.0, ending_body b.done b.last, can_end b.indent b.context b.done b.last u.0, u.2))
    go (Some o) =
        let b = put o passed st.inner in
        let u = can_go_up st.outer (ending_body b.done b.last) in
        let mid = ending_rows b.indent b.last u.0 in
        let c = inside st.inner.context o in
        let spelled : BodyAt c st.inner.indent 0 None (row (st.inner.indent + 1) 0 (form.Simple x.Pass) ∷ mid) mid passed = below (omega arith) (a_simple (passes c)) no_statement in
        (row (st.inner.indent + 1) 0 (form.Simple x.Pass) ∷ mid, u.1, (u.0, ending_body b.done b.last, record { line = 0; mid = mid; block = passed; spelled = spelled; ends = can_end b.indent b.context b.done b.last u.0 }, u.2))

-- ---- what the machine reads

is_module : (rows : Rows) (whole : Statements) → Completes start rows whole → ModuleAt rows whole
is_module rows whole c =
    let body : c.2.0 ≡ whole = c.2.2 ∙ c.3.1 in
    subst (λ y. StatementsAt (Code module_level) 0 rows [] y) body (subst (λ r. StatementsAt (Code module_level) 0 rows r c.2.0) c.3.0 c.2.1)

completed : (rows : Rows) (st : State) → run rows start ≡ Some st → (s : Rows) (whole : Statements) → Completes st s whole → Completes start (rows ++ s) whole
completed rows st e = subst (RunBack rows start) e (run_back rows start)

nil_right : (rows : Rows) → rows ++ [] ≡ rows
nil_right [] = refl
nil_right (t ∷ rows) = ap (λ s. t ∷ s) (nil_right rows)

pub spelled : (rows : Rows) (st : State) (whole : Statements) → run rows start ≡ Some st → finish st ≡ Some whole → ModuleAt rows whole
spelled rows st whole e f = is_module rows whole (subst (λ s. Completes start s whole) (nil_right rows) (completed rows st e [] whole (subst (FinishBack st) f (finish_back st))))

pub begun : (rows : Rows) (st : State) → run rows start ≡ Some st → Begins rows
begun rows st e =
    let c = can_complete st in
    (c.0, c.1, is_module (rows ++ c.0) c.1 (completed rows st e c.0 c.1 c.2))

pub run_append : (rows s : Rows) (st : State) → run (rows ++ s) st ≡ and_then (run s) (run rows st)
run_append [] s st = refl
run_append (t ∷ rows) s st = go (step st t) (λ to. run_append rows s to)
  where
    go : (to : Option State) → ((mid : State) → run (rows ++ s) mid ≡ and_then (run s) (run rows mid)) → and_then (run (rows ++ s)) to ≡ and_then (run s) (and_then (run rows) to)
    go None h = refl
    go (Some to) h = h to

pub not_begun : (rows : Rows) → run rows start ≡ None → Begins rows → ⊥
not_begun rows e b =
    let all = reads (rows ++ b.0) b.1 b.2 in
    let none : and_then finish (run (rows ++ b.0) start) ≡ None = ap (and_then finish) (run_append rows b.0 start ∙ ap (and_then (run b.0)) e) in
    let no : None ≡ Some b.1 = sym none ∙ all in
    absurd cc
