-- Which module the rows of forms spell. `Thing c i s r y`: at the front of the rows s stands a thing of indentation i, in the context
-- c, that spells y, and the rows r follow it. No number of levels is too great.
use Rattle.std.specs.Prelude.{◌≡◌, ◌<◌, ℕ, Bool, true, false, ◌&&◌, ◌||◌, List, [], ◌∷◌, Option, Some, None}
use Rattle.py_tree.specs.Syntax as x
use Rattle.py_tree.specs.Syntax.{Text, Expression, Param, Target, Kind, Statement, Statements, Branches, Clauses}
use Rattle.py_tree.specs.Lawful.{Place, module_level, function_level, may_define, takes_self, stands, member_stands}
use Rattle.py_expr.specs.Forms as form
use Rattle.py_expr.specs.Forms.{Form}
use Rattle.py_blocks.specs.Rows.{Row}

abbrev pub Rows : Type 0
Rows = List Row

abbrev pub row : ℕ → ℕ → Form → Row
row i n f = record { indent = i; line = n; form = f }

-- ---- what may stand where

-- what a block is the block of
pub data Context : Type 0 where
  Code : Place → Context  -- a module, a function, or a part of one
  ClassFront : Context  -- a class, above its first statement
  ClassRest : Context  -- a class, below it

-- the context behind a statement
abbrev pub behind : Context → Context
behind (Code p) = Code p
behind ClassFront = ClassRest
behind ClassRest = ClassRest

abbrev pub in_a_loop : Place → Place
in_a_loop p = record p { in_loop = true }

abbrev pub in_a_clause : Place → Place
in_a_clause p = record p { in_clause = true }

abbrev pub is_simple : Kind → Bool
is_simple (x.If tested orelse) = false
is_simple (x.While test body) = false
is_simple (x.For t e body) = false
is_simple (x.Try body handlers) = false
is_simple (x.Def function) = false
is_simple (x.Class class) = false
is_simple k = true

abbrev pub is_docstring : Kind → Bool
is_docstring (x.Eval (x.Str text)) = true
is_docstring k = false

abbrev pub simple_stands : Context → Kind → Bool
simple_stands (Code p) k = is_simple k && stands p k
simple_stands ClassFront k = is_docstring k || (is_simple k && member_stands k)
simple_stands ClassRest k = is_simple k && member_stands k

abbrev pub def_stands : Context → List Param → Bool
def_stands (Code p) params = may_define p
def_stands ClassFront params = takes_self params
def_stands ClassRest params = takes_self params

-- ---- blocks

mutual
  -- statements of one indentation, none among them
  pub data StatementsAt : Context → ℕ → Rows → Rows → Statements → Type 0 where
    no_statement : {c : Context} {i : ℕ} {r : Rows} → StatementsAt c i r r x.end_of_statements
    a_statement : {c : Context} {i : ℕ} {s m r : Rows} {t : Statement} {ts : Statements} → StatementAt c i s m t → StatementsAt (behind c) i m r ts → StatementsAt c i s r (x.more_statements t ts)

  -- a statement has the line of its first row
  pub data StatementAt : Context → ℕ → Rows → Rows → Statement → Type 0 where
    a_simple : {c : Context} {i n : ℕ} {k : Kind} {r : Rows} → simple_stands c k ≡ true → StatementAt c i (row i n (form.Simple k) ∷ r) r (x.On n k)
    an_if : {p : Place} {i n : ℕ} {e : Expression} {l : Option Kind} {s m r : Rows} {body orelse : Statements} {elifs : Branches} → BodyAt (Code p) i n l s m body → ElifsAt (Code p) i m r elifs orelse → StatementAt (Code p) i (row i n (form.Header (form.If e) l) ∷ s) r (x.On n (x.If (x.more_branches (x.Tested n e body) elifs) orelse))
    a_while : {p : Place} {i n : ℕ} {e : Expression} {l : Option Kind} {s r : Rows} {body : Statements} → BodyAt (Code (in_a_loop p)) i n l s r body → StatementAt (Code p) i (row i n (form.Header (form.While e) l) ∷ s) r (x.On n (x.While e body))
    a_for : {p : Place} {i n : ℕ} {g : Target} {e : Expression} {l : Option Kind} {s r : Rows} {body : Statements} → BodyAt (Code (in_a_loop p)) i n l s r body → StatementAt (Code p) i (row i n (form.Header (form.For g e) l) ∷ s) r (x.On n (x.For g e body))
    a_try : {p : Place} {i n : ℕ} {l : Option Kind} {s m r : Rows} {body : Statements} {handlers : Clauses} → BodyAt (Code p) i n l s m body → ClausesAt (Code (in_a_clause p)) i m r handlers → StatementAt (Code p) i (row i n (form.Header form.Try l) ∷ s) r (x.On n (x.Try body handlers))
    a_def : {c : Context} {i n : ℕ} {name : Text} {params : List Param} {result : Option Expression} {l : Option Kind} {s r : Rows} {body : Statements} → def_stands c params ≡ true → BodyAt (Code function_level) i n l s r body → StatementAt c i (row i n (form.Header (form.Def name params result) l) ∷ s) r (x.On n (x.Def (x.Defined name params result body)))
    a_class : {p : Place} {i n : ℕ} {name : Text} {base : Option Expression} {l : Option Kind} {s r : Rows} {body : Statements} → may_define p ≡ true → BodyAt ClassFront i n l s r body → StatementAt (Code p) i (row i n (form.Header (form.Class name base) l) ∷ s) r (x.On n (x.Class (x.Classed name base body)))

  -- the block of a head of indentation i on the line n: the simple statement l on that line, or else statements below, which are
  -- deeper than the head
  pub data BodyAt : Context → ℕ → ℕ → Option Kind → Rows → Rows → Statements → Type 0 where
    beside : {c : Context} {i n : ℕ} {k : Kind} {r : Rows} → simple_stands c k ≡ true → BodyAt c i n (Some k) r r (x.more_statements (x.On n k) x.end_of_statements)
    below : {c : Context} {i j n : ℕ} {s m r : Rows} {t : Statement} {ts : Statements} → i < j → StatementAt c j s m t → StatementsAt (behind c) j m r ts → BodyAt c i n None s r (x.more_statements t ts)

  -- behind the block of an `if` or an `elif`: further `elif`s, and an `else` or none
  pub data ElifsAt : Context → ℕ → Rows → Rows → Branches → Statements → Type 0 where
    no_elif : {c : Context} {i : ℕ} {r : Rows} → ElifsAt c i r r x.end_of_branches x.end_of_statements
    an_else : {c : Context} {i n : ℕ} {l : Option Kind} {s r : Rows} {body : Statements} → BodyAt c i n l s r body → ElifsAt c i (row i n (form.Header form.Else l) ∷ s) r x.end_of_branches body
    an_elif : {c : Context} {i n : ℕ} {e : Expression} {l : Option Kind} {s m r : Rows} {body orelse : Statements} {elifs : Branches} → BodyAt c i n l s m body → ElifsAt c i m r elifs orelse → ElifsAt c i (row i n (form.Header (form.Elif e) l) ∷ s) r (x.more_branches (x.Tested n e body) elifs) orelse

  -- the clauses of a `try`: at least one, and none behind one without an expression
  pub data ClausesAt : Context → ℕ → Rows → Rows → Clauses → Type 0 where
    last_clause : {c : Context} {i n : ℕ} {matches : Option Expression} {name : Option Text} {l : Option Kind} {s r : Rows} {body : Statements} → BodyAt c i n l s r body → ClausesAt c i (row i n (form.Header (form.Except matches name) l) ∷ s) r (x.more_clauses (x.Except matches name body) x.end_of_clauses)
    a_clause : {c : Context} {i n : ℕ} {e : Expression} {name : Option Text} {l : Option Kind} {s m r : Rows} {body : Statements} {handlers : Clauses} → BodyAt c i n l s m body → ClausesAt c i m r handlers → ClausesAt c i (row i n (form.Header (form.Except (Some e) name) l) ∷ s) r (x.more_clauses (x.Except (Some e) name body) handlers)

-- all rows, as one module
abbrev pub ModuleAt : Rows → Statements → Type 0
ModuleAt rows body = StatementsAt (Code module_level) 0 rows [] body
