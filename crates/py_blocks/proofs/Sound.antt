-- What is read is spelled.
use Rattle.std.proofs.Common.{◌≡◌, ◌<◌, ℕ, Bool, true, false, List, [], ◌∷◌, ◌++◌, Option, Some, None, refl, sym, subst, eqb-true, ltb-true, if◌then◌else◌, nat_eq, nat_lt}
use Rattle.py_tree.specs.Syntax as x
use Rattle.py_tree.specs.Syntax.{Text, Expression, Kind, Statement, Statements, Clauses}
use Rattle.py_tree.specs.Lawful.{Place}
use Rattle.py_expr.specs.Forms as form
use Rattle.py_expr.specs.Forms.{Form, Head}
use Rattle.py_blocks.specs.Rows.{Row}
use Rattle.py_blocks.specs.Blocks.{Rows, row, Context, Code, ClassFront, ClassRest, StatementAt, BodyAt, ClausesAt, behind, simple_stands, no_statement, a_statement, a_simple, an_if, a_while, a_for, a_try, a_def, a_class, beside, below, no_elif, an_else, an_elif, last_clause, a_clause}
use Rattle.py_blocks.specs.Machine as owner
use Rattle.py_blocks.specs.Machine.{Owner, Last, Whole, OpenIf, OpenTry, Block, Frame, State, Placed, onto, alone, inside, claused, fresh, put, settled, takes_clause, starts, started, continued, after_if, after_try, is_code, class_stands, head_stands, and_then, beside_head, begin, place, placed, above, place_in, place_back, place_waiting, step, run, close, finish}
use Rattle.py_blocks.proofs.Remains.{Ends, Handlers, no_more, more, Tail, TailOf, Then, Up, Completes}

abbrev block : ℕ → Context → List Statement → Last → Block
block i c done l = record { indent = i; context = c; done = done; last = l }

-- whatever remains behind the row, with the row it is of the form T
abbrev Back : Row → (Rows → Rows → Statements → Type 0) → Option Placed → Type 0
Back t T None = Unit {0}
Back t T (Some p) = (s r : Rows) (body : Statements) → Then p.block p.waiting s r body → T (t ∷ s) r body

-- the same of a head's owner: whatever remains behind the block of the head
abbrev OwnerBack : ℕ → ℕ → Head → Option Kind → (Rows → Rows → Statements → Type 0) → Block → Option Owner → Type 0
OwnerBack i n h l T to None = Unit {0}
OwnerBack i n h l T to (Some o) = (s q r : Rows) (bd body : Statements) → BodyAt (inside to.context o) to.indent n l s q bd → TailOf (put o bd to) q r body → T (row i n (form.Header h l) ∷ s) r body

only_if : (t : Row) (T : Rows → Rows → Statements → Type 0) (test : Bool) (p : Option Placed) → (test ≡ true → Back t T p) → Back t T (if test then p else None)
only_if t T true p f = f refl
only_if t T false p f = tt

only_if_owner : (i n : ℕ) (h : Head) (l : Option Kind) (T : Rows → Rows → Statements → Type 0) (to : Block) (test : Bool) (o : Option Owner) → (test ≡ true → OwnerBack i n h l T to o) → OwnerBack i n h l T to (if test then o else None)
only_if_owner i n h l T to true o f = f refl
only_if_owner i n h l T to false o f = tt

-- BodyAt of a head without a simple statement says nothing of the line
any_line : {c : Context} {i n : ℕ} {s r : Rows} {bd : Statements} → BodyAt c i n None s r bd → (line : ℕ) → BodyAt c i line None s r bd
any_line (below h d ds) line = below h d ds

beside_back : (i n : ℕ) (h : Head) (l : Option Kind) (T : Rows → Rows → Statements → Type 0) (to : Block) (o : Option Owner) → OwnerBack i n h l T to o → Back (row i n (form.Header h l)) T (and_then (beside_head to n l) o)
beside_back i n h l T to None f = tt
beside_back i n h None T to (Some o) f = λ s r body owned. f s owned.mid r owned.block body (any_line owned.spelled n) owned.ends
beside_back i n h (Some k) T to (Some o) f =
    only_if (row i n (form.Header h (Some k))) T (simple_stands (inside to.context o) k) (Some (placed (put o (alone (x.On n k)) to) None)) (λ e s r body tail. f s s r (alone (x.On n k)) body (beside e) tail)

-- ---- a head that begins a statement

-- a statement, and then the rest of its block
abbrev Starting : ℕ → Context → List Statement → Rows → Rows → Statements → Type 0
Starting i c done s r body = (q : Rows) × (u : Statement) × StatementAt c i s q u × Ends i (behind c) (u ∷ done) q r body

also : (i : ℕ) (c : Context) (done : List Statement) (s r : Rows) (body : Statements) → Starting i c done s r body → Ends i c done s r body
also i c done s r body e = (x.more_statements e.1 e.3.0, a_statement e.2 e.3.1, e.3.2)

code_back : (i : ℕ) (p : Place) (done : List Statement) (n : ℕ) (h : Head) (l : Option Kind) → head_stands (Code p) h ≡ true → OwnerBack i n h l (Starting i (Code p) done) (fresh i (Code p) done) (started n h)
code_back i p done n (form.If e) l stands = λ s q r bd body d tail. (_, _, an_if d tail.3, tail.4)
code_back i p done n (form.Elif e) l stands = tt
code_back i p done n form.Else l stands = tt
code_back i p done n (form.While e) l stands = λ s q r bd body d tail. (_, _, a_while d, tail)
code_back i p done n (form.For g e) l stands = λ s q r bd body d tail. (_, _, a_for d, tail)
code_back i p done n form.Try l stands = λ s q r bd body d tail. try_back i p done n l s q r bd body d tail.2 tail.3
  where
    try_back : (i : ℕ) (p : Place) (done : List Statement) (n : ℕ) (l : Option Kind) (s q r : Rows) (bd body : Statements) {mid : Rows} {handlers : Clauses} → BodyAt (Code p) i n l s q bd
        → Handlers (claused (Code p)) i [] q mid handlers → Ends i (Code p) (x.On n (x.Try bd handlers) ∷ done) mid r body → Starting i (Code p) done (row i n (form.Header form.Try l) ∷ s) r body
    try_back i p done n l s q r bd body d (more h ds) ends = (_, _, a_try d ds, ends)
code_back i p done n (form.Except matches name) l stands = tt
code_back i p done n (form.Def name params result) l stands = λ s q r bd body d tail. (_, _, a_def stands d, tail)
code_back i p done n (form.Class name base) l stands = λ s q r bd body d tail. (_, _, a_class stands d, tail)

-- in a class
abbrev InClass : Context → Type 0
InClass (Code p) = ⊥
InClass c = Unit {0}

class_back : (i : ℕ) (c : Context) (done : List Statement) (n : ℕ) (h : Head) (l : Option Kind) → (is_code c ≡ true → ⊥) → (class_stands c ≡ true → ⊥) → head_stands c h ≡ true → OwnerBack i n h l (Starting i c done) (fresh i (behind c) done) (started n h)
class_back i c done n (form.If e) l not_code not_class stands = absurd (not_code stands)
class_back i c done n (form.Elif e) l not_code not_class stands = tt
class_back i c done n form.Else l not_code not_class stands = tt
class_back i c done n (form.While e) l not_code not_class stands = absurd (not_code stands)
class_back i c done n (form.For g e) l not_code not_class stands = absurd (not_code stands)
class_back i c done n form.Try l not_code not_class stands = absurd (not_code stands)
class_back i c done n (form.Except matches name) l not_code not_class stands = tt
class_back i c done n (form.Def name params result) l not_code not_class stands = λ s q r bd body d tail. (_, _, a_def stands d, tail)
class_back i c done n (form.Class name base) l not_code not_class stands = absurd (not_class stands)

head_back : (i : ℕ) (c : Context) (done : List Statement) (n : ℕ) (h : Head) (l : Option Kind) → head_stands c h ≡ true → OwnerBack i n h l (Starting i c done) (fresh i (behind c) done) (started n h)
head_back i (Code p) done n h l stands = code_back i p done n h l stands
head_back i ClassFront done n h l stands = class_back i ClassFront done n h l (λ e. absurd cc) (λ e. absurd cc) stands
head_back i ClassRest done n h l stands = class_back i ClassRest done n h l (λ e. absurd cc) (λ e. absurd cc) stands

begin_back : (i : ℕ) (c : Context) (done : List Statement) (n : ℕ) (f : Form) → Back (row i n f) (Starting i c done) (begin i c done n f)
begin_back i c done n (form.Simple k) =
    only_if (row i n (form.Simple k)) (Starting i c done) (simple_stands c k) (Some (placed (fresh i (behind c) (x.On n k ∷ done)) None)) (λ e s r body tail. (_, _, a_simple e, tail))
begin_back i c done n (form.Header h l) =
    only_if (row i n (form.Header h l)) (Starting i c done) (head_stands c h) (and_then (beside_head (fresh i (behind c) done) n l) (started n h))
    (λ e. beside_back i n h l (Starting i c done) (fresh i (behind c) done) (started n h) (head_back i c done n h l e))

-- ---- the statement before

abbrev Settles : ℕ → Context → List Statement → Last → Option (List Statement) → Type 0
Settles i c done l None = Unit {0}
Settles i c done l (Some all) = (s r : Rows) (body : Statements) → Ends i c all s r body → Tail i c done l s r body

settles : (i : ℕ) (c : Context) (done : List Statement) (l : Last) → Settles i c done l (settled done l)
settles i c done Whole = λ s r body ends. ends
settles i c done (OpenIf n bs) = λ s r body ends. (s, x.end_of_branches, x.end_of_statements, no_elif, ends)
settles i c done (OpenTry n tried []) = tt
settles i c done (OpenTry n tried (k ∷ cs)) = λ s r body ends. (s, x.end_of_clauses, no_more, ends)

settle_back : (t : Row) (i : ℕ) (c : Context) (done : List Statement) (l : Last) (all : Option (List Statement)) (f : List Statement → Option Placed)
    → Settles i c done l all → ((k : List Statement) → Back t (Starting i c k) (f k)) → Back t (TailOf (block i c done l)) (and_then f all)
settle_back t i c done l None f h g = tt
settle_back t i c done l (Some k) f h g = go (f k) (g k)
  where
    go : (p : Option Placed) → Back t (Starting i c k) p → Back t (TailOf (block i c done l)) p
    go None b = tt
    go (Some p) b = λ s r body rest. h (t ∷ s) r body (also i c k (t ∷ s) r body (b s r body rest))

-- ---- a head that goes on

if_back : (i : ℕ) (c : Context) (done : List Statement) (m : ℕ) (bs : List x.Branch) (n : ℕ) (h : Head) (l : Option Kind) → OwnerBack i n h l (TailOf (block i c done (OpenIf m bs))) (fresh i c done) (after_if m bs n h)
if_back i c done m bs n (form.If e) l = tt
if_back i c done m bs n (form.Elif e) l = λ s q r bd body d tail. (tail.0, x.more_branches (x.Tested n e bd) tail.1, tail.2, an_elif d tail.3, tail.4)
if_back i c done m bs n form.Else l = λ s q r bd body d tail. (q, x.end_of_branches, bd, an_else d, tail)
if_back i c done m bs n (form.While e) l = tt
if_back i c done m bs n (form.For g e) l = tt
if_back i c done m bs n form.Try l = tt
if_back i c done m bs n (form.Except matches name) l = tt
if_back i c done m bs n (form.Def name params result) l = tt
if_back i c done m bs n (form.Class name base) l = tt

clause_back : (i : ℕ) (c : Context) (cs : List x.Clause) (matches : Option Expression) (name : Option Text) (n : ℕ) (l : Option Kind) (s q : Rows) (bd : Statements) → BodyAt (claused c) i n l s q bd
    → {mid : Rows} {handlers : Clauses} → Handlers (claused c) i (x.Except matches name bd ∷ cs) q mid handlers → ClausesAt (claused c) i (row i n (form.Header (form.Except matches name) l) ∷ s) mid (x.more_clauses (x.Except matches name bd) handlers)
clause_back i c cs matches name n l s q bd d no_more = last_clause d
clause_back i c cs None name n l s q bd d (more h ds) = absurd cc
clause_back i c cs (Some e) name n l s q bd d (more h ds) = a_clause d ds

try_goes_back : (i : ℕ) (c : Context) (done : List Statement) (m : ℕ) (tried : Statements) (cs : List x.Clause) (n : ℕ) (h : Head) (l : Option Kind) → OwnerBack i n h l (TailOf (block i c done (OpenTry m tried cs))) (fresh i c done) (after_try m tried cs h)
try_goes_back i c done m tried cs n (form.If e) l = tt
try_goes_back i c done m tried cs n (form.Elif e) l = tt
try_goes_back i c done m tried cs n form.Else l = tt
try_goes_back i c done m tried cs n (form.While e) l = tt
try_goes_back i c done m tried cs n (form.For g e) l = tt
try_goes_back i c done m tried cs n form.Try l = tt
try_goes_back i c done m tried cs n (form.Except matches name) l =
    only_if_owner i n (form.Except matches name) l (TailOf (block i c done (OpenTry m tried cs))) (fresh i c done) (takes_clause cs) (Some (owner.Except m tried cs matches name))
    (λ e s q r bd body d tail. (tail.0, x.more_clauses (x.Except matches name bd) tail.1, more e (clause_back i c cs matches name n l s q bd d tail.2), tail.3))
try_goes_back i c done m tried cs n (form.Def name params result) l = tt
try_goes_back i c done m tried cs n (form.Class name base) l = tt

continued_back : (i : ℕ) (c : Context) (done : List Statement) (last : Last) (n : ℕ) (h : Head) (l : Option Kind) → OwnerBack i n h l (TailOf (block i c done last)) (fresh i c done) (continued last n h)
continued_back i c done Whole n h l = tt
continued_back i c done (OpenIf m bs) n h l = if_back i c done m bs n h l
continued_back i c done (OpenTry m tried cs) n h l = try_goes_back i c done m tried cs n h l

-- ---- a row in a block

place_in_block : (i : ℕ) (c : Context) (done : List Statement) (l : Last) (n : ℕ) (f : Form) → Back (row i n f) (TailOf (block i c done l)) (place (block i c done l) n f)
place_in_block i c done l n (form.Simple k) =
    settle_back (row i n (form.Simple k)) i c done l (settled done l) (λ all. begin i c all n (form.Simple k)) (settles i c done l) (λ all. begin_back i c all n (form.Simple k))
place_in_block i c done last n (form.Header h l) = go (starts h)
  where
    go : (test : Bool) → Back (row i n (form.Header h l)) (TailOf (block i c done last)) (if test then and_then (λ all. begin i c all n (form.Header h l)) (settled done last) else and_then (beside_head (fresh i c done) n l) (continued last n h))
    go true = settle_back (row i n (form.Header h l)) i c done last (settled done last) (λ all. begin i c all n (form.Header h l)) (settles i c done last) (λ all. begin_back i c all n (form.Header h l))
    go false = beside_back i n h l (TailOf (block i c done last)) (fresh i c done) (continued last n h) (continued_back i c done last n h l)

-- ---- a row in a state

abbrev Ending : List Frame → Block → Rows → Statements → Type 0
Ending fs b s whole = (r : Rows) × (body : Statements) × TailOf b s r body × Up fs r body whole

-- whatever completes the state behind the row, with the row it completes the blocks before it
abbrev StateBack : Row → List Frame → Block → Option State → Type 0
StateBack t fs b None = Unit {0}
StateBack t fs b (Some st) = (s : Rows) (whole : Statements) → Completes st s whole → Ending fs b (t ∷ s) whole

in_place : (t : Row) (fs : List Frame) (b : Block) → t.indent ≡ b.indent → StateBack t fs b (place_in t fs b)
in_place t fs b e = go (place b t.line t.form) (place_in_block b.indent b.context b.done b.last t.line t.form)
  where
    go : (p : Option Placed) → Back (row b.indent t.line t.form) (TailOf b) p → StateBack t fs b (and_then (above fs) p)
    go None h = tt
    go (Some p) h = λ s whole c. (c.0, c.1, subst (λ i. TailOf b (row i t.line t.form ∷ s) c.0 c.1) (sym e) (h s c.0 c.1 c.2), c.3)

only_if_state : (t : Row) (fs : List Frame) (b : Block) (test : Bool) (one other : Option State) → (test ≡ true → StateBack t fs b one) → StateBack t fs b other → StateBack t fs b (if test then one else other)
only_if_state t fs b true one other f g = f refl
only_if_state t fs b false one other f g = g

out_of : (t : Row) (f : Frame) (fs : List Frame) (b : Block) (all : Option (List Statement)) → Settles b.indent b.context b.done b.last all
    → ((k : List Statement) → StateBack t fs (put f.owner (onto k x.end_of_statements) f.block) (place_back t fs (put f.owner (onto k x.end_of_statements) f.block)))
    → StateBack t (f ∷ fs) b (and_then (λ k. place_back t fs (put f.owner (onto k x.end_of_statements) f.block)) all)
out_of t f fs b None h g = tt
out_of t f fs b (Some k) h g = go (place_back t fs (put f.owner (onto k x.end_of_statements) f.block)) (g k)
  where
    go : (st : Option State) → StateBack t fs (put f.owner (onto k x.end_of_statements) f.block) st → StateBack t (f ∷ fs) b st
    go None back = tt
    go (Some st) back = λ s whole c.
        let e = back s whole c in
        let body = onto k x.end_of_statements in
        (t ∷ s, body, h (t ∷ s) (t ∷ s) body (x.end_of_statements, no_statement, refl), (e.0, e.1, e.2, e.3))

placed_back : (t : Row) (fs : List Frame) (b : Block) → StateBack t fs b (place_back t fs b)
placed_back t [] b = only_if_state t [] b (nat_eq b.indent t.indent) (place_in t [] b) None (λ e. in_place t [] b (sym (eqb-true b.indent t.indent e))) tt
placed_back t (f ∷ fs) b =
    only_if_state t (f ∷ fs) b (nat_eq b.indent t.indent) (place_in t (f ∷ fs) b) (and_then (λ k. place_back t fs (put f.owner (onto k x.end_of_statements) f.block)) (settled b.done b.last))
    (λ e. in_place t (f ∷ fs) b (sym (eqb-true b.indent t.indent e)))
    (out_of t f fs b (settled b.done b.last) (settles b.indent b.context b.done b.last) (λ k. placed_back t fs (put f.owner (onto k x.end_of_statements) f.block)))

-- ---- the first row of a block

-- the same with the row as the first of a block
abbrev NewBack : Row → List Frame → ℕ → Context → Option State → Type 0
NewBack t fs i c None = Unit {0}
NewBack t fs i c (Some st) = (s : Rows) (whole : Statements) → Completes st s whole → (r : Rows) × (body : Statements) × Starting i c [] (t ∷ s) r body × Up fs r body whole

new_place : (i : ℕ) (c : Context) (n : ℕ) (f : Form) → Back (row i n f) (Starting i c []) (place (fresh i c []) n f)
new_place i c n (form.Simple k) = begin_back i c [] n (form.Simple k)
new_place i c n (form.Header h l) = go (starts h)
  where
    go : (test : Bool) → Back (row i n (form.Header h l)) (Starting i c []) (if test then begin i c [] n (form.Header h l) else None)
    go true = begin_back i c [] n (form.Header h l)
    go false = tt

in_new_place : (t : Row) (fs : List Frame) (c : Context) → NewBack t fs t.indent c (place_in t fs (fresh t.indent c []))
in_new_place t fs c = go (place (fresh t.indent c []) t.line t.form) (new_place t.indent c t.line t.form)
  where
    go : (p : Option Placed) → Back t (Starting t.indent c []) p → NewBack t fs t.indent c (and_then (above fs) p)
    go None h = tt
    go (Some p) h = λ s whole e. (e.0, e.1, h s e.0 e.1 e.2, e.3)

abbrev StepBack : Row → State → Option State → Type 0
StepBack t st None = Unit {0}
StepBack t st (Some to) = (s : Rows) (whole : Statements) → Completes to s whole → Completes st (t ∷ s) whole

first_body : (c : Context) (i j : ℕ) (s r : Rows) (body : Statements) → i < j → Starting j c [] s r body → BodyAt c i 0 None s r body
first_body c i j s r body deeper e = subst (λ y. BodyAt c i 0 None s r y) e.3.2 (below deeper e.2 e.3.1)

below_back : (t : Row) (fs : List Frame) (b : Block) (o : Owner) → b.indent < t.indent → (to : Option State)
    → NewBack t (record { block = b; owner = o } ∷ fs) t.indent (inside b.context o) to → StepBack t (record { inner = b; outer = fs; waiting = Some o }) to
below_back t fs b o deeper None h = tt
below_back t fs b o deeper (Some to) h = λ s whole c.
    let e = h s whole c in
    (e.3.0, e.3.1, record { line = 0; mid = e.0; block = e.1; spelled = first_body (inside b.context o) b.indent t.indent (t ∷ s) e.0 e.1 deeper e.2; ends = e.3.2 }, e.3.3)

waiting_back : (t : Row) (fs : List Frame) (b : Block) (o : Option Owner) → StepBack t (record { inner = b; outer = fs; waiting = o }) (place_waiting t fs b o)
waiting_back t fs b None = go (place_back t fs b) (placed_back t fs b)
  where
    go : (to : Option State) → StateBack t fs b to → StepBack t (record { inner = b; outer = fs; waiting = None }) to
    go None h = tt
    go (Some to) h = h
waiting_back t fs b (Some o) = go (nat_lt b.indent t.indent) (λ e. ltb-true b.indent t.indent e)
  where
    go : (test : Bool) → (test ≡ true → b.indent < t.indent) → StepBack t (record { inner = b; outer = fs; waiting = Some o }) (if test then place_in t (record { block = b; owner = o } ∷ fs) (fresh t.indent (inside b.context o) []) else None)
    go true h = below_back t fs b o (h refl) (place_in t (record { block = b; owner = o } ∷ fs) (fresh t.indent (inside b.context o) [])) (in_new_place t (record { block = b; owner = o } ∷ fs) (inside b.context o))
    go false h = tt

pub step_back : (t : Row) (st : State) → StepBack t st (step st t)
step_back t st = waiting_back t st.outer st.inner st.waiting

-- ---- all rows

abbrev pub RunBack : Rows → State → Option State → Type 0
RunBack rows st None = Unit {0}
RunBack rows st (Some to) = (s : Rows) (whole : Statements) → Completes to s whole → Completes st (rows ++ s) whole

pub run_back : (rows : Rows) (st : State) → RunBack rows st (run rows st)
run_back [] st = λ s whole c. c
run_back (t ∷ rows) st = go (step st t) (step_back t st) (run_back rows)
  where
    on : (mid : State) → ((s : Rows) (whole : Statements) → Completes mid s whole → Completes st (t ∷ s) whole) → (to : Option State) → RunBack rows mid to → RunBack (t ∷ rows) st to
    on mid one None h = tt
    on mid one (Some to) h = λ s whole c. one (rows ++ s) whole (h s whole c)

    go : (to : Option State) → StepBack t st to → ((mid : State) → RunBack rows mid (run rows mid)) → RunBack (t ∷ rows) st (and_then (run rows) to)
    go None one h = tt
    go (Some mid) one h = on mid one (run rows mid) (h mid)

-- ---- the end

abbrev CloseBack : List Frame → Block → Option Statements → Type 0
CloseBack fs b None = Unit {0}
CloseBack fs b (Some whole) = Ending fs b [] whole

close_out : (f : Frame) (fs : List Frame) (b : Block) (all : Option (List Statement)) → Settles b.indent b.context b.done b.last all
    → ((k : List Statement) → CloseBack fs (put f.owner (onto k x.end_of_statements) f.block) (close fs (put f.owner (onto k x.end_of_statements) f.block)))
    → CloseBack (f ∷ fs) b (and_then (λ k. close fs (put f.owner (onto k x.end_of_statements) f.block)) all)
close_out f fs b None h g = tt
close_out f fs b (Some k) h g = go (close fs (put f.owner (onto k x.end_of_statements) f.block)) (g k)
  where
    go : (whole : Option Statements) → CloseBack fs (put f.owner (onto k x.end_of_statements) f.block) whole → CloseBack (f ∷ fs) b whole
    go None e = tt
    go (Some whole) e = ([], onto k x.end_of_statements, h [] [] (onto k x.end_of_statements) (x.end_of_statements, no_statement, refl), (e.0, e.1, e.2, e.3))

close_last : (b : Block) (all : Option (List Statement)) → Settles b.indent b.context b.done b.last all → CloseBack [] b (and_then (λ k. Some (onto k x.end_of_statements)) all)
close_last b None h = tt
close_last b (Some k) h = ([], onto k x.end_of_statements, h [] [] (onto k x.end_of_statements) (x.end_of_statements, no_statement, refl), (refl, refl))

close_back : (fs : List Frame) (b : Block) → CloseBack fs b (close fs b)
close_back [] b = close_last b (settled b.done b.last) (settles b.indent b.context b.done b.last)
close_back (f ∷ fs) b = close_out f fs b (settled b.done b.last) (settles b.indent b.context b.done b.last) (λ k. close_back fs (put f.owner (onto k x.end_of_statements) f.block))

abbrev pub FinishBack : State → Option Statements → Type 0
FinishBack st None = Unit {0}
FinishBack st (Some whole) = Completes st [] whole

pub finish_back : (st : State) → FinishBack st (finish st)
finish_back st = go st.waiting
  where
    closing : (whole : Option Statements) → CloseBack st.outer st.inner whole → FinishBack (record { inner = st.inner; outer = st.outer; waiting = None }) whole
    closing None e = tt
    closing (Some whole) e = e

    go : (o : Option Owner) → FinishBack (record { inner = st.inner; outer = st.outer; waiting = o }) (owner.close_waiting st.outer st.inner o)
    go None = closing (close st.outer st.inner) (close_back st.outer st.inner)
    go (Some o) = tt
