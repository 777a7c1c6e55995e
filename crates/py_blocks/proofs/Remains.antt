-- What the rows that are still to come spell, in a state of the machine.
use Rattle.std.proofs.Common.{◌≡◌, ◌<◌, ℕ, true, List, [], ◌∷◌, Option, Some, None}
use Rattle.py_tree.specs.Syntax as x
use Rattle.py_tree.specs.Syntax.{Statement, Statements, Branches, Clauses}
use Rattle.py_expr.specs.Forms as form
use Rattle.py_expr.specs.Forms.{Form}
use Rattle.py_blocks.specs.Blocks.{Rows, Context, StatementsAt, BodyAt, ElifsAt, ClausesAt}
use Rattle.py_blocks.specs.Machine.{Owner, Last, Whole, OpenIf, OpenTry, Block, Frame, State, onto, branches_onto, clauses_onto, inside, claused, put, takes_clause, starts}

-- behind `done`, up to the end of the block
abbrev pub Ends : ℕ → Context → List Statement → Rows → Rows → Statements → Type 0
Ends i c done s r body = (ts : Statements) × StatementsAt c i s r ts × (onto done ts ≡ body)

-- further clauses
pub data Handlers : Context → ℕ → List x.Clause → Rows → Rows → Clauses → Type 0 where
  no_more : {c : Context} {i : ℕ} {k : x.Clause} {cs : List x.Clause} {r : Rows} → Handlers c i (k ∷ cs) r r x.end_of_clauses
  more : {c : Context} {i : ℕ} {cs : List x.Clause} {s r : Rows} {handlers : Clauses} → takes_clause cs ≡ true → ClausesAt c i s r handlers → Handlers c i cs s r handlers

abbrev pub EndsIf : ℕ → Context → List Statement → ℕ → List x.Branch → Rows → Rows → Statements → Type 0
EndsIf i c done n bs s r body = (m : Rows) × (elifs : Branches) × (orelse : Statements) × ElifsAt c i s m elifs orelse × Ends i c (x.On n (x.If (branches_onto bs elifs) orelse) ∷ done) m r body

abbrev pub EndsTry : ℕ → Context → List Statement → ℕ → Statements → List x.Clause → Rows → Rows → Statements → Type 0
EndsTry i c done n tried cs s r body = (m : Rows) × (handlers : Clauses) × Handlers (claused c) i cs s m handlers × Ends i c (x.On n (x.Try tried (clauses_onto cs handlers)) ∷ done) m r body

-- behind `done` and what was read of the last statement
abbrev pub Tail : ℕ → Context → List Statement → Last → Rows → Rows → Statements → Type 0
Tail i c done Whole s r body = Ends i c done s r body
Tail i c done (OpenIf n bs) s r body = EndsIf i c done n bs s r body
Tail i c done (OpenTry n tried cs) s r body = EndsTry i c done n tried cs s r body

abbrev pub TailOf : Block → Rows → Rows → Statements → Type 0
TailOf b s r body = Tail b.indent b.context b.done b.last s r body

-- the wanted block of a head, and then the rest of the block in which the head stands
pub record Owned (b : Block) (o : Owner) (s r : Rows) (body : Statements) : Type 0 where
  pub line : ℕ
  pub mid : Rows
  pub block : Statements
  pub spelled : BodyAt (inside b.context o) b.indent line None s mid block
  pub ends : TailOf (put o block b) mid r body

abbrev pub Then : Block → Option Owner → Rows → Rows → Statements → Type 0
Then b None s r body = TailOf b s r body
Then b (Some o) s r body = Owned b o s r body

-- the rest of the outer blocks, behind the end of the inner one
abbrev pub Up : List Frame → Rows → Statements → Statements → Type 0
Up [] r body whole = (r ≡ []) × (body ≡ whole)
Up (f ∷ fs) r body whole = (q : Rows) × (outer : Statements) × TailOf (put f.owner body f.block) r q outer × Up fs q outer whole

abbrev pub Completes : State → Rows → Statements → Type 0
Completes st s whole = (r : Rows) × (body : Statements) × Then st.inner st.waiting s r body × Up st.outer r body whole

-- each block is deeper than the one around it
abbrev pub Sorted : ℕ → List Frame → Type 0
Sorted i [] = Unit {0}
Sorted i (f ∷ fs) = (f.block.indent < i) × Sorted f.block.indent fs

abbrev pub Begins_statement : Form → Type 0
Begins_statement (form.Simple k) = Unit {0}
Begins_statement (form.Header h l) = starts h ≡ true
