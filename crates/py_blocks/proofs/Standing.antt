-- What rows spell is lawful.
use Rattle.std.proofs.Common.{◌≡◌, ℕ, Bool, true, false, ◌&&◌, ◌||◌, List, [], ◌∷◌, Option, Some, None, ◌⊎◌, inl, inr, refl}
use Rattle.std.proofs.lemmas.Bool.{and_parts, and_from, or_cases}
use Rattle.py_tree.specs.Syntax as x
use Rattle.py_tree.specs.Syntax.{Text, Expression, Kind, Statement, Statements, Branches, Clauses}
use Rattle.py_tree.specs.Lawful as lawful
use Rattle.py_tree.specs.Lawful.{Place, module_level, function_level, stands, all_stand, branches_stand, clauses_stand, class_stands, members_stand, member_stands}
use Rattle.py_tree.specs.Literals.{fits, maybe_fits, params_fit, target_fits, kind_fits, statements_fit, branches_fit, clauses_fit}
use Rattle.py_expr.specs.Forms as form
use Rattle.py_expr.specs.Literals.{head_fits}
use Rattle.py_blocks.specs.Fits.{forms_fit}
use Rattle.py_blocks.specs.Blocks.{Rows, Context, Code, ClassFront, ClassRest, StatementsAt, StatementAt, BodyAt, ElifsAt, ClausesAt, ModuleAt, behind, in_a_clause, is_simple, is_docstring, simple_stands, no_statement, a_statement, a_simple, an_if, a_while, a_for, a_try, a_def, a_class, beside, below, no_elif, an_else, an_elif, last_clause, a_clause}

-- ---- statements stand where they may

abbrev one_stands : Context → Statement → Bool
one_stands (Code p) (x.On n k) = stands p k
one_stands ClassFront (x.On n k) = is_docstring k || member_stands k
one_stands ClassRest (x.On n k) = member_stands k

abbrev block_stands : Context → Statements → Bool
block_stands (Code p) ts = all_stand p ts
block_stands ClassFront ts = class_stands (x.Classed [] None ts)
block_stands ClassRest ts = members_stand ts

front_stands : (n : ℕ) (k : Kind) (ts : Statements) → (is_docstring k || member_stands k) ≡ true → members_stand ts ≡ true → class_stands (x.Classed [] None (x.more_statements (x.On n k) ts)) ≡ true
front_stands n (x.Eval (x.Str text)) ts h g = g
front_stands n k ts h g = and_from (member_stands k) (members_stand ts) h g

also_stands : (c : Context) (t : Statement) (ts : Statements) → one_stands c t ≡ true → block_stands (behind c) ts ≡ true → block_stands c (x.more_statements t ts) ≡ true
also_stands (Code p) (x.On n k) ts h g = and_from (stands p k) (all_stand p ts) h g
also_stands ClassFront (x.On n k) ts h g = front_stands n k ts h g
also_stands ClassRest (x.On n k) ts h g = and_from (member_stands k) (members_stand ts) h g

none_stand : (c : Context) → block_stands c x.end_of_statements ≡ true
none_stand (Code p) = refl
none_stand ClassFront = refl
none_stand ClassRest = refl

or_true : (p q : Bool) → q ≡ true → (p || q) ≡ true
or_true true q e = refl
or_true false q e = e

simple_one : (c : Context) (n : ℕ) (k : Kind) → simple_stands c k ≡ true → one_stands c (x.On n k) ≡ true
simple_one (Code p) n k h = (and_parts (is_simple k) (stands p k) h).1
simple_one ClassFront n k h = go (or_cases (is_docstring k) (is_simple k && member_stands k) h)
  where
    left : (p q : Bool) → p ≡ true → (p || q) ≡ true
    left true q e = refl
    left false q e = absurd cc

    go : (is_docstring k ≡ true) ⊎ ((is_simple k && member_stands k) ≡ true) → (is_docstring k || member_stands k) ≡ true
    go (inl e) = left (is_docstring k) (member_stands k) e
    go (inr e) = or_true (is_docstring k) (member_stands k) (and_parts (is_simple k) (member_stands k) e).1
simple_one ClassRest n k h = (and_parts (is_simple k) (member_stands k) h).1

def_one : (c : Context) (n : ℕ) (name : Text) (params : List x.Param) (result : Option Expression) (body : Statements) → Rattle.py_blocks.specs.Blocks.def_stands c params ≡ true → all_stand function_level body ≡ true
    → one_stands c (x.On n (x.Def (x.Defined name params result body))) ≡ true
def_one (Code p) n name params result body h g = and_from (lawful.may_define p) (all_stand function_level body) h g
def_one ClassFront n name params result body h g = and_from (lawful.takes_self params) (all_stand function_level body) h g
def_one ClassRest n name params result body h g = and_from (lawful.takes_self params) (all_stand function_level body) h g

class_one : (name : Text) (base : Option Expression) (body : Statements) → class_stands (x.Classed [] None body) ≡ true → class_stands (x.Classed name base body) ≡ true
class_one name base (x.more_statements (x.On line (x.Eval (x.Str text))) rest) h = h
class_one name base body h = h

-- clauses, of which there is one
abbrev SomeStand : Place → Clauses → Type 0
SomeStand p x.end_of_clauses = ⊥
SomeStand p (x.more_clauses c rest) = clauses_stand p (x.more_clauses c rest) ≡ true

next_clause : (p : Place) (e : Expression) (name : Option Text) (body : Statements) (handlers : Clauses) → all_stand (in_a_clause p) body ≡ true → SomeStand p handlers → SomeStand p (x.more_clauses (x.Except (Some e) name body) handlers)
next_clause p e name body x.end_of_clauses h g = absurd g
next_clause p e name body (x.more_clauses c rest) h g = and_from (all_stand (in_a_clause p) body) (clauses_stand p (x.more_clauses c rest)) h g

try_stands : (p : Place) (body : Statements) (handlers : Clauses) → all_stand p body ≡ true → SomeStand p handlers → stands p (x.Try body handlers) ≡ true
try_stands p body x.end_of_clauses h g = absurd g
try_stands p body (x.more_clauses c rest) h g = and_from (all_stand p body) (clauses_stand p (x.more_clauses c rest)) h g

mutual
  statements_stand : {c : Context} {i : ℕ} {s r : Rows} {ts : Statements} → StatementsAt c i s r ts → block_stands c ts ≡ true
  statements_stand (no_statement {c = c}) = none_stand c
  statements_stand (a_statement {c = c} {t = t} {ts = ts} d ds) = also_stands c t ts (statement_stands d) (statements_stand ds)

  statement_stands : {c : Context} {i : ℕ} {s r : Rows} {t : Statement} → StatementAt c i s r t → one_stands c t ≡ true
  statement_stands (a_simple {c = c} {n = n} {k = k} h) = simple_one c n k h
  statement_stands (an_if {p = p} {body = body} {orelse = orelse} {elifs = elifs} b l) =
      and_from (all_stand p body && branches_stand p elifs) (all_stand p orelse) (and_from (all_stand p body) (branches_stand p elifs) (body_stands b) (elifs_stand l).0) (elifs_stand l).1
  statement_stands (a_while b) = body_stands b
  statement_stands (a_for b) = body_stands b
  statement_stands (a_try {p = p} {body = body} {handlers = handlers} b l) = try_stands p body handlers (body_stands b) (handlers_stand p l)
  statement_stands (a_def {c = c} {n = n} {name = name} {params = params} {result = result} {body = body} h b) = def_one c n name params result body h (body_stands b)
  statement_stands (a_class {p = p} {name = name} {base = base} {body = body} h b) = and_from (lawful.may_define p) (class_stands (x.Classed name base body)) h (class_one name base body (body_stands b))

  body_stands : {c : Context} {i n : ℕ} {l : Option Kind} {s r : Rows} {body : Statements} → BodyAt c i n l s r body → block_stands c body ≡ true
  body_stands (beside {c = c} {n = n} {k = k} h) = also_stands c (x.On n k) x.end_of_statements (simple_one c n k h) (none_stand (behind c))
  body_stands (below {c = c} {t = t} {ts = ts} h d ds) = also_stands c t ts (statement_stands d) (statements_stand ds)

  elifs_stand : {p : Place} {i : ℕ} {s r : Rows} {elifs : Branches} {orelse : Statements} → ElifsAt (Code p) i s r elifs orelse → (branches_stand p elifs ≡ true) × (all_stand p orelse ≡ true)
  elifs_stand no_elif = (refl, refl)
  elifs_stand (an_else b) = (refl, body_stands b)
  elifs_stand {p = p} (an_elif {body = body} {elifs = elifs} b l) = (and_from (all_stand p body) (branches_stand p elifs) (body_stands b) (elifs_stand l).0, (elifs_stand l).1)

  handlers_stand : (p : Place) {i : ℕ} {s r : Rows} {handlers : Clauses} → ClausesAt (Code (in_a_clause p)) i s r handlers → SomeStand p handlers
  handlers_stand p (last_clause b) = body_stands b
  handlers_stand p (a_clause {e = e} {name = name} {body = body} {handlers = handlers} b l) = next_clause p e name body handlers (body_stands b) (handlers_stand p l)

pub module_stands : (rows : Rows) (body : Statements) → ModuleAt rows body → all_stand module_level body ≡ true
module_stands rows body d = statements_stand d

-- ---- literals

three : (a b c : Bool) → ((a && b) && c) ≡ true → (a && (b && c)) ≡ true
three true b c h = h
three false b c h = h

-- the rows r fit, and so does what is spelled before them
record Fitting (r : Rows) (spelled : Bool) : Type 0 where
  rest : forms_fit r ≡ true
  here : spelled ≡ true

mutual
  statements_fit_in : {c : Context} {i : ℕ} {s r : Rows} {ts : Statements} → StatementsAt c i s r ts → forms_fit s ≡ true → Fitting r (statements_fit ts)
  statements_fit_in no_statement h = record { rest = h; here = refl }
  statements_fit_in (a_statement {t = x.On n k} {ts = ts} d ds) h =
      let a = statement_fits_in d h in
      let b = statements_fit_in ds a.rest in
      record { rest = b.rest; here = and_from (kind_fits k) (statements_fit ts) a.here b.here }

  statement_fits_in : {c : Context} {i n : ℕ} {s r : Rows} {k : Kind} → StatementAt c i s r (x.On n k) → forms_fit s ≡ true → Fitting r (kind_fits k)
  statement_fits_in (a_simple {k = k} {r = r} e) h = let f = and_parts (kind_fits k) (forms_fit r) h in record { rest = f.1; here = f.0 }
  statement_fits_in (an_if {e = e} {l = l} {s = s} {body = body} {orelse = orelse} {elifs = elifs} b d) h =
      let a = body_fits_in (form.If e) b h in
      let f = elifs_fit_in d a.rest in
      let heads = and_parts (fits e) (statements_fit body) a.here in
      let others = and_parts (branches_fit elifs) (statements_fit orelse) f.here in
      record { rest = f.rest; here = and_from ((fits e && statements_fit body) && branches_fit elifs) (statements_fit orelse) (and_from (fits e && statements_fit body) (branches_fit elifs) a.here others.0) others.1 }
  statement_fits_in (a_while {e = e} b) h = body_fits_in (form.While e) b h
  statement_fits_in (a_for {g = g} {e = e} {body = body} b) h = let a = body_fits_in (form.For g e) b h in record { rest = a.rest; here = three (target_fits g) (fits e) (statements_fit body) a.here }
  statement_fits_in (a_try {body = body} {handlers = handlers} b d) h =
      let a = body_fits_in form.Try b h in
      let f = clauses_fit_in d a.rest in
      record { rest = f.rest; here = and_from (statements_fit body) (clauses_fit handlers) a.here f.here }
  statement_fits_in (a_def {name = name} {params = params} {result = result} {body = body} e b) h =
      let a = body_fits_in (form.Def name params result) b h in record { rest = a.rest; here = three (params_fit params) (maybe_fits result) (statements_fit body) a.here }
  statement_fits_in (a_class {name = name} {base = base} e b) h = body_fits_in (form.Class name base) b h

  body_fits_in : {c : Context} {i n : ℕ} {l : Option Kind} {s r : Rows} {body : Statements} (g : form.Head) → BodyAt c i n l s r body → forms_fit (Rattle.py_blocks.specs.Blocks.row i n (form.Header g l) ∷ s) ≡ true → Fitting r (head_fits g && statements_fit body)
  body_fits_in g (beside {k = k} {r = r} e) h =
      let f = and_parts (head_fits g && kind_fits k) (forms_fit r) h in
      let both = and_parts (head_fits g) (kind_fits k) f.0 in
      record { rest = f.1; here = and_from (head_fits g) (kind_fits k && true) both.0 (and_from (kind_fits k) true both.1 refl) }
  body_fits_in g (below {s = s} {t = x.On n k} {ts = ts} e d ds) h =
      let f = and_parts (head_fits g) (forms_fit s) h in
      let a = statement_fits_in d f.1 in
      let b = statements_fit_in ds a.rest in
      record { rest = b.rest; here = and_from (head_fits g) (kind_fits k && statements_fit ts) f.0 (and_from (kind_fits k) (statements_fit ts) a.here b.here) }

  elifs_fit_in : {c : Context} {i : ℕ} {s r : Rows} {elifs : Branches} {orelse : Statements} → ElifsAt c i s r elifs orelse → forms_fit s ≡ true → Fitting r (branches_fit elifs && statements_fit orelse)
  elifs_fit_in no_elif h = record { rest = h; here = refl }
  elifs_fit_in (an_else b) h = body_fits_in form.Else b h
  elifs_fit_in (an_elif {e = e} {body = body} {orelse = orelse} {elifs = elifs} b d) h =
      let a = body_fits_in (form.Elif e) b h in
      let f = elifs_fit_in d a.rest in
      let others = and_parts (branches_fit elifs) (statements_fit orelse) f.here in
      record { rest = f.rest; here = and_from ((fits e && statements_fit body) && branches_fit elifs) (statements_fit orelse) (and_from (fits e && statements_fit body) (branches_fit elifs) a.here others.0) others.1 }

  clauses_fit_in : {c : Context} {i : ℕ} {s r : Rows} {handlers : Clauses} → ClausesAt c i s r handlers → forms_fit s ≡ true → Fitting r (clauses_fit handlers)
  clauses_fit_in (last_clause {matches = matches} {name = name} {body = body} b) h =
      let a = body_fits_in (form.Except matches name) b h in
      record { rest = a.rest; here = and_from (maybe_fits matches && statements_fit body) true a.here refl }
  clauses_fit_in (a_clause {e = e} {name = name} {body = body} {handlers = handlers} b d) h =
      let a = body_fits_in (form.Except (Some e) name) b h in
      let f = clauses_fit_in d a.rest in
      record { rest = f.rest; here = and_from (fits e && statements_fit body) (clauses_fit handlers) a.here f.here }

pub module_fits : (rows : Rows) (body : Statements) → ModuleAt rows body → forms_fit rows ≡ true → statements_fit body ≡ true
module_fits rows body d h = (statements_fit_in d h).here
