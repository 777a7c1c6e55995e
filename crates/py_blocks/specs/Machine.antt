-- No definition of the language: what `build` keeps while it reads, as plain data. Lists of what was read have the newest first.
use Rattle.std.specs.Prelude.{ℕ, Bool, true, false, ◌||◌, if◌then◌else◌, nat_eq, nat_lt, List, [], ◌∷◌, Option, Some, None}
use Rattle.std.specs.List.{list_any}
use Rattle.py_tree.specs.Syntax as x
use Rattle.py_tree.specs.Syntax.{Text, Expression, Param, Target, Kind, Statement, Statements, Branches, Clauses}
use Rattle.py_tree.specs.Lawful.{module_level, function_level, may_define}
use Rattle.py_expr.specs.Forms as form
use Rattle.py_expr.specs.Forms.{Form, Head}
use Rattle.py_blocks.specs.Rows.{Row}
use Rattle.py_blocks.specs.Blocks.{Rows, Context, Code, ClassFront, behind, in_a_loop, in_a_clause, simple_stands, def_stands}

-- the newest first, and then the rest
abbrev pub onto : List Statement → Statements → Statements
onto [] ts = ts
onto (t ∷ done) ts = onto done (x.more_statements t ts)

abbrev pub branches_onto : List x.Branch → Branches → Branches
branches_onto [] bs = bs
branches_onto (b ∷ done) bs = branches_onto done (x.more_branches b bs)

abbrev pub clauses_onto : List x.Clause → Clauses → Clauses
clauses_onto [] cs = cs
clauses_onto (c ∷ done) cs = clauses_onto done (x.more_clauses c cs)

abbrev pub alone : Statement → Statements
alone t = x.more_statements t x.end_of_statements

-- a head whose block is read, with what was read of its statement
pub data Owner : Type 0 where
  Branch : ℕ → List x.Branch → ℕ → Expression → Owner
  Orelse : ℕ → List x.Branch → Owner
  While : ℕ → Expression → Owner
  For : ℕ → Target → Expression → Owner
  Try : ℕ → Owner
  Except : ℕ → Statements → List x.Clause → Option Expression → Option Text → Owner
  Def : ℕ → Text → List Param → Option Expression → Owner
  Class : ℕ → Text → Option Expression → Owner

-- the last statement of a block, where it may still go on
pub data Last : Type 0 where
  Whole : Last
  OpenIf : ℕ → List x.Branch → Last
  OpenTry : ℕ → Statements → List x.Clause → Last

pub record Block : Type 0 where
  pub indent : ℕ
  pub context : Context
  pub done : List Statement
  pub last : Last

pub record Frame : Type 0 where
  pub block : Block
  pub owner : Owner

pub record State : Type 0 where
  pub inner : Block
  pub outer : List Frame
  pub waiting : Option Owner

-- a block behind a row, and the head in that row that wants a block
pub record Placed : Type 0 where
  pub block : Block
  pub waiting : Option Owner

abbrev pub fresh : ℕ → Context → List Statement → Block
fresh i c done = record { indent = i; context = c; done = done; last = Whole }

abbrev pub start : State
start = record { inner = fresh 0 (Code module_level) []; outer = []; waiting = None }

abbrev pub and_then : {A B : Type 0} → (A → Option B) → Option A → Option B
and_then f None = None
and_then f (Some a) = f a

-- ---- contexts

abbrev pub looped : Context → Context
looped (Code p) = Code (in_a_loop p)
looped c = c

abbrev pub claused : Context → Context
claused (Code p) = Code (in_a_clause p)
claused c = c

-- that of the block of a head
abbrev pub inside : Context → Owner → Context
inside c (Branch n bs m e) = c
inside c (Orelse n bs) = c
inside c (While n e) = looped c
inside c (For n g e) = looped c
inside c (Try n) = c
inside c (Except n body cs matches name) = claused c
inside c (Def n name params result) = Code function_level
inside c (Class n name base) = ClassFront

-- ---- the end of a block

abbrev pub with_statement : Statement → Block → Block
with_statement t b = fresh b.indent b.context (t ∷ b.done)

-- the block in which the head stands, where the head's block is `body`
abbrev pub put : Owner → Statements → Block → Block
put (Branch n bs m e) body b = record b { last = OpenIf n (x.Tested m e body ∷ bs) }
put (Orelse n bs) body b = with_statement (x.On n (x.If (branches_onto bs x.end_of_branches) body)) b
put (While n e) body b = with_statement (x.On n (x.While e body)) b
put (For n g e) body b = with_statement (x.On n (x.For g e body)) b
put (Try n) body b = record b { last = OpenTry n body [] }
put (Except n tried cs matches name) body b = record b { last = OpenTry n tried (x.Except matches name body ∷ cs) }
put (Def n name params result) body b = with_statement (x.On n (x.Def (x.Defined name params result body))) b
put (Class n name base) body b = with_statement (x.On n (x.Class (x.Classed name base body))) b

-- the statements, where the last may end
abbrev pub settled : List Statement → Last → Option (List Statement)
settled done Whole = Some done
settled done (OpenIf n bs) = Some (x.On n (x.If (branches_onto bs x.end_of_branches) x.end_of_statements) ∷ done)
settled done (OpenTry n body []) = None
settled done (OpenTry n body (c ∷ cs)) = Some (x.On n (x.Try body (clauses_onto (c ∷ cs) x.end_of_clauses)) ∷ done)

-- ---- a row in its block

-- whether a clause may follow
abbrev pub takes_clause : List x.Clause → Bool
takes_clause [] = true
takes_clause (x.Except None name body ∷ cs) = false
takes_clause (x.Except (Some e) name body ∷ cs) = true

-- whether a head begins a statement
abbrev pub starts : Head → Bool
starts (form.Elif e) = false
starts form.Else = false
starts (form.Except matches name) = false
starts h = true

-- a head that goes on with the last statement
abbrev pub after_if : ℕ → List x.Branch → ℕ → Head → Option Owner
after_if m bs n (form.Elif e) = Some (Branch m bs n e)
after_if m bs n form.Else = Some (Orelse m bs)
after_if m bs n h = None

abbrev pub after_try : ℕ → Statements → List x.Clause → Head → Option Owner
after_try m body cs (form.Except matches name) = if takes_clause cs then Some (Except m body cs matches name) else None
after_try m body cs h = None

abbrev pub continued : Last → ℕ → Head → Option Owner
continued Whole n h = None
continued (OpenIf m bs) n h = after_if m bs n h
continued (OpenTry m body cs) n h = after_try m body cs h

abbrev pub is_code : Context → Bool
is_code (Code p) = true
is_code c = false

abbrev pub class_stands : Context → Bool
class_stands (Code p) = may_define p
class_stands c = false

abbrev pub head_stands : Context → Head → Bool
head_stands c (form.Def name params result) = def_stands c params
head_stands c (form.Class name base) = class_stands c
head_stands c h = is_code c

abbrev pub started : ℕ → Head → Option Owner
started n (form.If e) = Some (Branch n [] n e)
started n (form.While e) = Some (While n e)
started n (form.For g e) = Some (For n g e)
started n form.Try = Some (Try n)
started n (form.Def name params result) = Some (Def n name params result)
started n (form.Class name base) = Some (Class n name base)
started n h = None

abbrev pub placed : Block → Option Owner → Placed
placed b o = record { block = b; waiting = o }

-- the simple statement on the head's line, or the block that is wanted
abbrev pub beside_head : Block → ℕ → Option Kind → Owner → Option Placed
beside_head b n None o = Some (placed b (Some o))
beside_head b n (Some k) o = if simple_stands (inside b.context o) k then Some (placed (put o (alone (x.On n k)) b) None) else None

-- a form that begins a statement, behind the statements of a block
abbrev pub begin : ℕ → Context → List Statement → ℕ → Form → Option Placed
begin i c done n (form.Simple k) = if simple_stands c k then Some (placed (fresh i (behind c) (x.On n k ∷ done)) None) else None
begin i c done n (form.Header h l) = if head_stands c h then and_then (beside_head (fresh i (behind c) done) n l) (started n h) else None

abbrev pub place : Block → ℕ → Form → Option Placed
place b n (form.Simple k) = and_then (λ done. begin b.indent b.context done n (form.Simple k)) (settled b.done b.last)
place b n (form.Header h l) =
    if starts h
    then and_then (λ done. begin b.indent b.context done n (form.Header h l)) (settled b.done b.last)
    else and_then (beside_head (fresh b.indent b.context b.done) n l) (continued b.last n h)

-- ---- all rows

-- the statements of a block, where its last may end
abbrev pub body : Block → Option Statements
body b = and_then (λ done. Some (onto done x.end_of_statements)) (settled b.done b.last)

-- the block around b, behind the end of b
abbrev pub left : Frame → Block → Option Block
left f b = and_then (λ ended. Some (put f.owner ended f.block)) (body b)

abbrev pub above : List Frame → Placed → Option State
above fs p = Some (record { inner = p.block; outer = fs; waiting = p.waiting })

abbrev pub place_in : Row → List Frame → Block → Option State
place_in t fs b = and_then (above fs) (place b t.line t.form)

-- the ends of the blocks within the one of the row's indentation
abbrev pub place_back : Row → List Frame → Block → Option State
place_back t [] b = if nat_eq b.indent t.indent then place_in t [] b else None
place_back t (f ∷ fs) b =
    if nat_eq b.indent t.indent
    then place_in t (f ∷ fs) b
    else and_then (λ done. place_back t fs (put f.owner (onto done x.end_of_statements) f.block)) (settled b.done b.last)

abbrev pub below_head : Row → List Frame → Block → Owner → Option State
below_head t fs b o =
    if nat_lt b.indent t.indent then place_in t (record { block = b; owner = o } ∷ fs) (fresh t.indent (inside b.context o) []) else None

abbrev pub place_waiting : Row → List Frame → Block → Option Owner → Option State
place_waiting t fs b None = place_back t fs b
place_waiting t fs b (Some o) = below_head t fs b o

abbrev pub step : State → Row → Option State
step st t = place_waiting t st.outer st.inner st.waiting

abbrev pub run : Rows → State → Option State
run [] st = Some st
run (t ∷ rows) st = and_then (run rows) (step st t)

-- the ends of all blocks
abbrev pub close : List Frame → Block → Option Statements
close [] b = and_then (λ done. Some (onto done x.end_of_statements)) (settled b.done b.last)
close (f ∷ fs) b = and_then (λ done. close fs (put f.owner (onto done x.end_of_statements) f.block)) (settled b.done b.last)

abbrev pub close_waiting : List Frame → Block → Option Owner → Option Statements
close_waiting fs b None = close fs b
close_waiting fs b (Some o) = None

abbrev pub finish : State → Option Statements
finish st = close_waiting st.outer st.inner st.waiting

-- whether a row of that indentation may be next
abbrev pub admits_in : List Frame → Block → Option Owner → ℕ → Bool
admits_in fs b None i = nat_eq b.indent i || list_any (λ f. nat_eq f.block.indent i) fs
admits_in fs b (Some o) i = nat_lt b.indent i

abbrev pub admits : State → ℕ → Bool
admits st i = admits_in st.outer st.inner st.waiting i
