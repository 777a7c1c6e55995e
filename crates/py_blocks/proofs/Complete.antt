-- What is spelled is read.
use Rattle.std.proofs.Common.{◌≡◌, ◌<◌, ◌≤◌, ℕ, true, false, List, [], ◌∷◌, Option, Some, None, refl, sym, ap, subst, ◌∙◌, arith, eq-eqb, lt-ltb, nat_eq}
use Rattle.std.proofs.lemmas.Bool.{ne_eqb}
use Rattle.py_tree.specs.Syntax as x
use Rattle.py_tree.specs.Syntax.{Kind, Statement, Statements, Branches, Clauses}
use Rattle.py_expr.specs.Forms as form
use Rattle.py_expr.specs.Forms.{Form}
use Rattle.py_blocks.specs.Rows.{Row}
use Rattle.py_blocks.specs.Blocks.{Rows, Context, Code, StatementsAt, StatementAt, BodyAt, ElifsAt, ClausesAt, ModuleAt, behind, no_statement, a_statement, a_simple, an_if, a_while, a_for, a_try, a_def, a_class, beside, below, no_elif, an_else, an_elif, last_clause, a_clause}
use Rattle.py_blocks.specs.Machine as m
use Rattle.py_blocks.specs.Machine.{Owner, Last, Whole, OpenIf, OpenTry, Block, Frame, State, Placed, onto, branches_onto, clauses_onto, alone, inside, claused, fresh, put, settled, takes_clause, and_then, beside_head, begin, place, placed, above, place_in, place_back, below_head, step, run, close, finish, start}
use Rattle.py_blocks.proofs.Remains.{Ends, Handlers, no_more, more, Tail, TailOf, Owned, Then, Up, Completes, Sorted, Begins_statement}

pub put_indent : (o : Owner) (body : Statements) (b : Block) → (put o body b).indent ≡ b.indent
put_indent (m.Branch n bs l e) body b = refl
put_indent (m.Orelse n bs) body b = refl
put_indent (m.While n e) body b = refl
put_indent (m.For n g e) body b = refl
put_indent (m.Try n) body b = refl
put_indent (m.Except n tried cs matches name) body b = refl
put_indent (m.Def n name params result) body b = refl
put_indent (m.Class n name base) body b = refl

-- the form is placed in a block of indentation i, and what remains follows
record Goes (i : ℕ) (found : Option Placed) (s r : Rows) (body : Statements) : Type 0 where
  to : Placed
  is : found ≡ Some to
  remains : Then to.block to.waiting s r body
  indent : to.block.indent ≡ i

beside_goes : {l : Option Kind} {n : ℕ} {s q : Rows} {bd : Statements} (b : Block) (o : Owner) (r : Rows) (body : Statements)
    → BodyAt (inside b.context o) b.indent n l s q bd → TailOf (put o bd b) q r body → Goes b.indent (beside_head b n l o) s r body
beside_goes b o r body (beside {n = n} {k = k} h) t = rw h record { to = placed (put o (alone (x.On n k)) b) None; is = refl; remains = t; indent = put_indent o (alone (x.On n k)) b }
beside_goes b o r body (below h d ds) t = record { to = placed b (Some o); is = refl; remains = record { line = 0; mid = _; block = _; spelled = below h d ds; ends = t }; indent = refl }

-- ---- a row that begins a statement

record BeginsWith (i : ℕ) (t : Row) (found : Option Placed) (s r : Rows) (body : Statements) : Type 0 where
  here : t.indent ≡ i
  begins : Begins_statement t.form
  goes : Goes i found s r body

begin_goes : {c : Context} {i : ℕ} {t : Row} {s q : Rows} {u : Statement} → StatementAt c i (t ∷ s) q u → (done : List Statement) (r : Rows) (body : Statements)
    → Ends i (behind c) (u ∷ done) q r body → BeginsWith i t (begin i c done t.line t.form) s r body
begin_goes (a_simple {c = c} {i = i} {n = n} {k = k} h) done r body e =
    rw h record { here = refl; begins = tt; goes = record { to = placed (fresh i (behind c) (x.On n k ∷ done)) None; is = refl; remains = e; indent = refl } }
begin_goes (an_if {p = p} {i = i} {n = n} {e = e} b l) done r body k =
    record { here = refl; begins = refl; goes = beside_goes (fresh i (Code p) done) (m.Branch n [] n e) r body b (_, _, _, l, k) }
begin_goes (a_while {p = p} {i = i} {n = n} {e = e} b) done r body k =
    record { here = refl; begins = refl; goes = beside_goes (fresh i (Code p) done) (m.While n e) r body b k }
begin_goes (a_for {p = p} {i = i} {n = n} {g = g} {e = e} b) done r body k =
    record { here = refl; begins = refl; goes = beside_goes (fresh i (Code p) done) (m.For n g e) r body b k }
begin_goes (a_try {p = p} {i = i} {n = n} b l) done r body k =
    record { here = refl; begins = refl; goes = beside_goes (fresh i (Code p) done) (m.Try n) r body b (_, _, more refl l, k) }
begin_goes (a_def {c = c} {i = i} {n = n} {name = name} {params = params} {result = result} h b) done r body k =
    record { here = refl; begins = refl; goes = rw h (beside_goes (fresh i (behind c) done) (m.Def n name params result) r body b k) }
begin_goes (a_class {p = p} {i = i} {n = n} {name = name} {base = base} h b) done r body k =
    record { here = refl; begins = refl; goes = rw h (beside_goes (fresh i (Code p) done) (m.Class n name base) r body b k) }

-- ---- a row in a block, or behind it

abbrev block : ℕ → Context → List Statement → Last → Block
block i c done l = record { indent = i; context = c; done = done; last = l }

data Met (i : ℕ) (c : Context) (done : List Statement) (l : Last) (t : Row) (s r : Rows) (body : Statements) : Type 0 where
  inner : t.indent ≡ i → Goes i (place (block i c done l) t.line t.form) s r body → Met i c done l t s r body
  outer : (all : List Statement) → settled done l ≡ Some all → r ≡ t ∷ s → body ≡ onto all x.end_of_statements → Met i c done l t s r body

place_begins : (b : Block) (n : ℕ) (f : Form) (all : List Statement) → settled b.done b.last ≡ Some all → Begins_statement f → place b n f ≡ begin b.indent b.context all n f
place_begins b n (form.Simple k) all e h = rw e refl
place_begins b n (form.Header g l) all e h = rw (h, e) refl

statements_met : {i : ℕ} {c : Context} {t : Row} {s r : Rows} {ts : Statements} → StatementsAt c i (t ∷ s) r ts → (done : List Statement) (l : Last) (all : List Statement) (body : Statements)
    → settled done l ≡ Some all → onto all ts ≡ body → Met i c done l t s r body
statements_met no_statement done l all body e same = outer all e refl (sym same)
statements_met (a_statement {c = c} {i = i} {s = t ∷ s} {r = r} d ds) done l all body e same =
    let b = begin_goes d all r body (_, ds, same) in
    inner b.here (subst (λ found. Goes i found s r body) (sym (place_begins (block i c done l) t.line t.form all e b.begins)) b.goes)

ends_met : (i : ℕ) (c : Context) (done : List Statement) (l : Last) (all : List Statement) (t : Row) (s r : Rows) (body : Statements)
    → settled done l ≡ Some all → Ends i c all (t ∷ s) r body → Met i c done l t s r body
ends_met i c done l all t s r body e ends = statements_met ends.1 done l all body e ends.2

elifs_met : {i : ℕ} {c : Context} {t : Row} {s q : Rows} {elifs : Branches} {orelse : Statements} → ElifsAt c i (t ∷ s) q elifs orelse → (done : List Statement) (n : ℕ) (bs : List x.Branch) (r : Rows) (body : Statements)
    → Ends i c (x.On n (x.If (branches_onto bs elifs) orelse) ∷ done) q r body → Met i c done (OpenIf n bs) t s r body
elifs_met (no_elif {c = c} {i = i} {r = t ∷ s}) done n bs r body ends = ends_met i c done (OpenIf n bs) _ t s r body refl ends
elifs_met (an_else {c = c} {i = i} d) done n bs r body ends = inner refl (beside_goes (fresh i c done) (m.Orelse n bs) r body d ends)
elifs_met (an_elif {c = c} {i = i} {n = line} {e = e} d ds) done n bs r body ends = inner refl (beside_goes (fresh i c done) (m.Branch n bs line e) r body d (_, _, _, ds, ends))

clause_met : {i : ℕ} {c : Context} {t : Row} {s q : Rows} {handlers : Clauses} → ClausesAt (claused c) i (t ∷ s) q handlers → (done : List Statement) (n : ℕ) (tried : Statements) (cs : List x.Clause) (r : Rows) (body : Statements)
    → takes_clause cs ≡ true → Ends i c (x.On n (x.Try tried (clauses_onto cs handlers)) ∷ done) q r body → Met i c done (OpenTry n tried cs) t s r body
clause_met {c = c} (last_clause {i = i} {matches = matches} {name = name} d) done n tried cs r body h ends = inner refl (rw h (beside_goes (fresh i c done) (m.Except n tried cs matches name) r body d (_, _, no_more, ends)))
clause_met {c = c} (a_clause {i = i} {e = e} {name = name} d ds) done n tried cs r body h ends = inner refl (rw h (beside_goes (fresh i c done) (m.Except n tried cs (Some e) name) r body d (_, _, more refl ds, ends)))

handlers_met : {i : ℕ} {c : Context} {cs : List x.Clause} {t : Row} {s q : Rows} {handlers : Clauses} → Handlers (claused c) i cs (t ∷ s) q handlers → (done : List Statement) (n : ℕ) (tried : Statements) (r : Rows) (body : Statements)
    → Ends i c (x.On n (x.Try tried (clauses_onto cs handlers)) ∷ done) q r body → Met i c done (OpenTry n tried cs) t s r body
handlers_met {c = c} (no_more {i = i} {k = k} {cs = ks} {r = t ∷ s}) done n tried r body ends = ends_met i c done (OpenTry n tried (k ∷ ks)) _ t s r body refl ends
handlers_met (more {cs = cs} h d) done n tried r body ends = clause_met d done n tried cs r body h ends

met : (i : ℕ) (c : Context) (done : List Statement) (l : Last) (t : Row) (s r : Rows) (body : Statements) → Tail i c done l (t ∷ s) r body → Met i c done l t s r body
met i c done Whole t s r body tail = ends_met i c done Whole done t s r body refl tail
met i c done (OpenIf n bs) t s r body tail = elifs_met tail.3 done n bs r body tail.4
met i c done (OpenTry n tried cs) t s r body tail = handlers_met tail.2 done n tried r body tail.3

-- ---- a row in a state

-- the state behind a row, and that what remains completes it
pub record Goes_on (found : Option State) (s : Rows) (whole : Statements) : Type 0 where
  pub to : State
  pub is : found ≡ Some to
  pub completes : Completes to s whole
  pub sorted : Sorted to.inner.indent to.outer

place_goes : (t : Row) (fs : List Frame) (b : Block) (s r : Rows) (body whole : Statements)
    → Sorted b.indent fs → Goes b.indent (place b t.line t.form) s r body → Up fs r body whole → Goes_on (place_in t fs b) s whole
place_goes t fs b s r body whole deep goes up =
    record { to = record { inner = goes.to.block; outer = fs; waiting = goes.to.waiting }; is = ap (and_then (above fs)) goes.is; completes = (r, body, goes.remains, up); sorted = subst (λ i. Sorted i fs) (sym goes.indent) deep }

record Back (t : Row) (i : ℕ) (found : Option State) (s : Rows) (whole : Statements) : Type 0 where
  at_most : t.indent ≤ i
  goes : Goes_on found s whole

place_here : (t : Row) (fs : List Frame) (b : Block) → t.indent ≡ b.indent → place_back t fs b ≡ place_in t fs b
place_here t [] b e = rw (eq-eqb b.indent t.indent (sym e)) refl
place_here t (f ∷ fs) b e = rw (eq-eqb b.indent t.indent (sym e)) refl

inner_back : (t : Row) (fs : List Frame) (b : Block) (s r : Rows) (body whole : Statements) → Sorted b.indent fs → t.indent ≡ b.indent
    → Goes b.indent (place b t.line t.form) s r body → Up fs r body whole → Back t b.indent (place_back t fs b) s whole
inner_back t fs b s r body whole deep e goes up =
    record { at_most = omega (arith, e); goes = subst (λ found. Goes_on found s whole) (sym (place_here t fs b e)) (place_goes t fs b s r body whole deep goes up) }

further_back : (t : Row) (f : Frame) (fs : List Frame) (b : Block) (all : List Statement) (s : Rows) (whole : Statements)
    → f.block.indent < b.indent → settled b.done b.last ≡ Some all → Back t f.block.indent (place_back t fs (put f.owner (onto all x.end_of_statements) f.block)) s whole
    → Back t b.indent (place_back t (f ∷ fs) b) s whole
further_back t f fs b all s whole deep e back =
    let other : nat_eq b.indent t.indent ≡ false = ne_eqb b.indent t.indent (λ same. omega (arith, back.at_most)) in
    record { at_most = omega (arith, back.at_most); goes = rw (other, e) back.goes }

goes_back : (t : Row) (fs : List Frame) (b : Block) (s r : Rows) (body whole : Statements)
    → Sorted b.indent fs → TailOf b (t ∷ s) r body → Up fs r body whole → Back t b.indent (place_back t fs b) s whole
goes_back t [] b s r body whole deep tail up = go (met b.indent b.context b.done b.last t s r body tail)
  where
    go : Met b.indent b.context b.done b.last t s r body → Back t b.indent (place_back t [] b) s whole
    go (inner e goes) = inner_back t [] b s r body whole deep e goes up
    go (outer all e at is) = let no : t ∷ s ≡ [] = sym at ∙ up.0 in absurd cc
goes_back t (f ∷ fs) b s r body whole deep tail up = go (λ o. goes_back t fs (put f.owner (onto o x.end_of_statements) f.block) s) (met b.indent b.context b.done b.last t s r body tail)
  where
    go : ((all : List Statement) (q : Rows) (outer whole : Statements) → Sorted (put f.owner (onto all x.end_of_statements) f.block).indent fs → TailOf (put f.owner (onto all x.end_of_statements) f.block) (t ∷ s) q outer → Up fs q outer whole
        → Back t (put f.owner (onto all x.end_of_statements) f.block).indent (place_back t fs (put f.owner (onto all x.end_of_statements) f.block)) s whole)
        → Met b.indent b.context b.done b.last t s r body → Back t b.indent (place_back t (f ∷ fs) b) s whole
    go rest (inner e goes) = inner_back t (f ∷ fs) b s r body whole deep e goes up
    go rest (outer all e at is) =
        let ended = onto all x.end_of_statements in
        let same = put_indent f.owner ended f.block in
        let tail : TailOf (put f.owner ended f.block) (t ∷ s) up.0 up.1 = subst (λ y. TailOf (put f.owner y f.block) (t ∷ s) up.0 up.1) is (subst (λ y. TailOf (put f.owner body f.block) y up.0 up.1) at up.2) in
        let back = rest all up.0 up.1 whole (subst (λ i. Sorted i fs) (sym same) deep.1) tail up.3 in
        further_back t f fs b all s whole deep.0 e (subst (λ i. Back t i (place_back t fs (put f.owner ended f.block)) s whole) same back)

body_goes : {c : Context} {i n : ℕ} {t : Row} {s q : Rows} {bd : Statements} → BodyAt c i n None (t ∷ s) q bd
    → (i < t.indent) × Goes t.indent (place (fresh t.indent c []) t.line t.form) s q bd
body_goes (below {c = c} {i = i} {j = j} {s = t ∷ s} {r = r} {t = u} {ts = ts} h d ds) =
    let body = x.more_statements u ts in
    let b = begin_goes d [] r body (ts, ds, refl) in
    let there : Goes j (place (fresh j c []) t.line t.form) s r body = subst (λ found. Goes j found s r body) (sym (place_begins (fresh j c []) t.line t.form [] refl b.begins)) b.goes in
    (subst (λ k. i < k) (sym b.here) h, subst (λ k. Goes k (place (fresh k c []) t.line t.form) s r body) (sym b.here) there)

below_goes : (t : Row) (fs : List Frame) (b : Block) (o : Owner) (s r : Rows) (body whole : Statements) → Sorted b.indent fs → Owned b o (t ∷ s) r body → Up fs r body whole → Goes_on (below_head t fs b o) s whole
below_goes t fs b o s r body whole deep owned up =
    let found = body_goes owned.spelled in
    rw (lt-ltb b.indent t.indent found.0)
    (place_goes t (record { block = b; owner = o } ∷ fs) (fresh t.indent (inside b.context o) []) s owned.mid owned.block whole (found.0, deep) found.1 (r, body, owned.ends, up))

pub step_goes : (st : State) (t : Row) (s : Rows) (whole : Statements) → Sorted st.inner.indent st.outer → Completes st (t ∷ s) whole → Goes_on (step st t) s whole
step_goes st t s whole deep c = go st.waiting c.2
  where
    go : (o : Option Owner) → Then st.inner o (t ∷ s) c.0 c.1 → Goes_on (m.place_waiting t st.outer st.inner o) s whole
    go None tail = (goes_back t st.outer st.inner s c.0 c.1 whole deep tail c.3).goes
    go (Some o) owned = below_goes t st.outer st.inner o s c.0 c.1 whole deep owned c.3

-- ---- all rows

abbrev HasRow : Rows → Type 0
HasRow [] = ⊥
HasRow (t ∷ s) = Unit {0}

has_row : {c : Context} {i : ℕ} {s r : Rows} {u : Statement} → StatementAt c i s r u → HasRow s
has_row (a_simple h) = tt
has_row (an_if b l) = tt
has_row (a_while b) = tt
has_row (a_for b) = tt
has_row (a_try b l) = tt
has_row (a_def h b) = tt
has_row (a_class h b) = tt

record Ended (done : List Statement) (l : Last) (r : Rows) (body : Statements) : Type 0 where
  all : List Statement
  settles : settled done l ≡ Some all
  empty : r ≡ []
  is : body ≡ onto all x.end_of_statements

statements_end : {c : Context} {i : ℕ} {r : Rows} {ts : Statements} → StatementsAt c i [] r ts → (done : List Statement) (l : Last) (all : List Statement) (body : Statements) → settled done l ≡ Some all → onto all ts ≡ body → Ended done l r body
statements_end no_statement done l all body e same = record { all = all; settles = e; empty = refl; is = sym same }
statements_end (a_statement d ds) done l all body e same = absurd (has_row d)

elifs_end : {c : Context} {i : ℕ} {q r : Rows} {elifs : Branches} {orelse : Statements} → ElifsAt c i [] q elifs orelse → (done : List Statement) (n : ℕ) (bs : List x.Branch) (body : Statements)
    → Ends i c (x.On n (x.If (branches_onto bs elifs) orelse) ∷ done) q r body → Ended done (OpenIf n bs) r body
elifs_end no_elif done n bs body ends = statements_end ends.1 done (OpenIf n bs) _ body refl ends.2

clauses_row : {c : Context} {i : ℕ} {s r : Rows} {handlers : Clauses} → ClausesAt c i s r handlers → HasRow s
clauses_row (last_clause d) = tt
clauses_row (a_clause d ds) = tt

handlers_end : {c : Context} {i : ℕ} {cs : List x.Clause} {q r : Rows} {handlers : Clauses} → Handlers (claused c) i cs [] q handlers → (done : List Statement) (n : ℕ) (tried body : Statements)
    → Ends i c (x.On n (x.Try tried (clauses_onto cs handlers)) ∷ done) q r body → Ended done (OpenTry n tried cs) r body
handlers_end (no_more {k = k} {cs = ks}) done n tried body ends = statements_end ends.1 done (OpenTry n tried (k ∷ ks)) _ body refl ends.2
handlers_end (more h d) done n tried body ends = absurd (clauses_row d)

ended : (i : ℕ) (c : Context) (done : List Statement) (l : Last) (r : Rows) (body : Statements) → Tail i c done l [] r body → Ended done l r body
ended i c done Whole r body tail = statements_end tail.1 done Whole done body refl tail.2
ended i c done (OpenIf n bs) r body tail = elifs_end tail.3 done n bs body tail.4
ended i c done (OpenTry n tried cs) r body tail = handlers_end tail.2 done n tried body tail.3

closes : (fs : List Frame) (b : Block) (r : Rows) (body whole : Statements) → TailOf b [] r body → Up fs r body whole → close fs b ≡ Some whole
closes [] b r body whole tail up =
    let e = ended b.indent b.context b.done b.last r body tail in
    rw e.settles (ap Some (sym e.is ∙ up.1))
closes (f ∷ fs) b r body whole tail up =
    let e = ended b.indent b.context b.done b.last r body tail in
    let outer : TailOf (put f.owner (onto e.all x.end_of_statements) f.block) [] up.0 up.1 = subst (λ y. TailOf (put f.owner y f.block) [] up.0 up.1) e.is (subst (λ y. TailOf (put f.owner body f.block) y up.0 up.1) e.empty up.2) in
    rw e.settles (closes fs (put f.owner (onto e.all x.end_of_statements) f.block) up.0 up.1 whole outer up.3)

body_row : {c : Context} {i n : ℕ} {s r : Rows} {bd : Statements} → BodyAt c i n None s r bd → HasRow s
body_row (below h d ds) = has_row d

finishes : (st : State) (whole : Statements) → Completes st [] whole → finish st ≡ Some whole
finishes st whole c = go st.waiting c.2
  where
    go : (o : Option Owner) → Then st.inner o [] c.0 c.1 → m.close_waiting st.outer st.inner o ≡ Some whole
    go None tail = closes st.outer st.inner c.0 c.1 whole tail c.3
    go (Some o) owned = absurd (body_row owned.spelled)

pub run_completes : (rows : Rows) (st : State) (whole : Statements) → Sorted st.inner.indent st.outer → Completes st rows whole → and_then finish (run rows st) ≡ Some whole
run_completes [] st whole deep c = finishes st whole c
run_completes (t ∷ rows) st whole deep c =
    let g = step_goes st t rows whole deep c in
    rw g.is (run_completes rows g.to whole g.sorted g.completes)

-- what is spelled is read
pub reads : (rows : Rows) (body : Statements) → ModuleAt rows body → and_then finish (run rows start) ≡ Some body
reads rows body d = run_completes rows start body tt ([], body, (body, d, refl), (refl, refl))

pub at_most_one : (rows : Rows) (a b : Statements) → ModuleAt rows a → ModuleAt rows b → a ≡ b
at_most_one rows a b d e = let same : Some a ≡ Some b = sym (reads rows a d) ∙ reads rows b e in cc
