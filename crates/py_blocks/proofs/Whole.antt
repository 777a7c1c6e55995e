-- A list that is kept the newest first, put in order.
use Rattle.std.proofs.Common.{◌≡◌, ℕ, List, [], ◌∷◌, ◌++◌, map, reverse, Some, refl, sym, ap, ◌∙◌}
use Rattle.std.proofs.lemmas.List.{reverse-append, map-append}
use Rattle.py_tree.specs.Syntax as x
use Rattle.py_tree.specs.Syntax.{Kind, Statement, Statements, Branches, Clauses}
use Rattle.py_tree.specs.Joined.{statements, branches, clauses, statement_of, branch_of, clause_of, kind_of, statements_of, class_of, function_of, kind_step, branch_step, class_step, clause_step, function_step, statement_step}
use Rattle.py_tree.specs.declared.statement.StmtKind.{StmtKind, roll-StmtKind, map-StmtKind}
use Rattle.py_tree.specs.declared.statement.StmtKind.TheOpen as S
use Rattle.py_tree.specs.declared.statement.StmtKind.TheFolds.{fold-roll-StmtKind}
use Rattle.py_tree.specs.declared.statement.ClassDef.{ClassDef}
use Rattle.py_tree.specs.declared.statement.Function.{Function}
use Rattle.py_tree.specs.declared.statement.StmtKind.TheVariants as kind
use Rattle.py_tree.specs.declared.statement.Stmt.{Stmt}
use Rattle.py_tree.specs.declared.statement.Branch as branch
use Rattle.py_tree.specs.declared.statement.Clause as clause
use Rattle.py_blocks.specs.Views.{done_of, branches_of, clauses_of}
use Rattle.py_blocks.specs.Machine.{onto, branches_onto, clauses_onto, settled, OpenTry}

reverse-cons : {A : Type 0} (a : A) (xs : List A) → reverse (a ∷ xs) ≡ reverse xs ++ a ∷ []
reverse-cons a xs = reverse-append (a ∷ []) xs

newest : {A B : Type 0} (f : A → B) (xs : List A) (a : A) → reverse (map f (xs ++ a ∷ [])) ≡ f a ∷ reverse (map f xs)
newest f xs a = ap reverse (map-append f xs (a ∷ [])) ∙ reverse-append (map f xs) (f a ∷ [])

pub statement_next : (done : List Stmt) (t : Stmt) → done_of (done ++ t ∷ []) ≡ statement_of t ∷ done_of done
statement_next done t = newest statement_of done t

pub branch_next : (bs : List branch.Branch) (b : branch.Branch) → branches_of (bs ++ b ∷ []) ≡ branch_of b ∷ branches_of bs
branch_next bs b = newest branch_of bs b

pub clause_next : (cs : List clause.Clause) (c : clause.Clause) → clauses_of (cs ++ c ∷ []) ≡ clause_of c ∷ clauses_of cs
clause_next cs c = newest clause_of cs c

onto_last : (ys : List Statement) (y : Statement) (ts : Statements) → onto (ys ++ y ∷ []) ts ≡ x.more_statements y (onto ys ts)
onto_last [] y ts = refl
onto_last (z ∷ ys) y ts = onto_last ys y (x.more_statements z ts)

pub statements_whole : (ts : List Statement) → onto (reverse ts) x.end_of_statements ≡ statements ts
statements_whole [] = refl
statements_whole (t ∷ ts) = ap (λ ys. onto ys x.end_of_statements) (reverse-cons t ts) ∙ onto_last (reverse ts) t x.end_of_statements ∙ ap (x.more_statements t) (statements_whole ts)

branches_last : (ys : List x.Branch) (y : x.Branch) (bs : Branches) → branches_onto (ys ++ y ∷ []) bs ≡ x.more_branches y (branches_onto ys bs)
branches_last [] y bs = refl
branches_last (z ∷ ys) y bs = branches_last ys y (x.more_branches z bs)

pub branches_whole : (bs : List x.Branch) → branches_onto (reverse bs) x.end_of_branches ≡ branches bs
branches_whole [] = refl
branches_whole (b ∷ bs) = ap (λ ys. branches_onto ys x.end_of_branches) (reverse-cons b bs) ∙ branches_last (reverse bs) b x.end_of_branches ∙ ap (x.more_branches b) (branches_whole bs)

clauses_last : (ys : List x.Clause) (y : x.Clause) (cs : Clauses) → clauses_onto (ys ++ y ∷ []) cs ≡ x.more_clauses y (clauses_onto ys cs)
clauses_last [] y cs = refl
clauses_last (z ∷ ys) y cs = clauses_last ys y (x.more_clauses z cs)

pub clauses_whole : (cs : List x.Clause) → clauses_onto (reverse cs) x.end_of_clauses ≡ clauses cs
clauses_whole [] = refl
clauses_whole (c ∷ cs) = ap (λ ys. clauses_onto ys x.end_of_clauses) (reverse-cons c cs) ∙ clauses_last (reverse cs) c x.end_of_clauses ∙ ap (x.more_clauses c) (clauses_whole cs)

-- a `try` with a clause
settled_some : (done : List Statement) (n : ℕ) (body : Statements) (ys : List x.Clause) (y : x.Clause)
    → settled done (OpenTry n body (ys ++ y ∷ [])) ≡ Some (x.On n (x.Try body (clauses_onto (ys ++ y ∷ []) x.end_of_clauses)) ∷ done)
settled_some done n body [] y = refl
settled_some done n body (z ∷ ys) y = refl

pub settled_clauses : (done : List Statement) (n : ℕ) (body : Statements) (cs : List x.Clause) → (cs ≡ [] → ⊥)
    → settled done (OpenTry n body (reverse cs)) ≡ Some (x.On n (x.Try body (clauses cs)) ∷ done)
settled_clauses done n body [] some = absurd (some refl)
settled_clauses done n body (c ∷ cs) some =
    ap (λ ys. settled done (OpenTry n body ys)) (reverse-cons c cs) ∙ settled_some done n body (reverse cs) c
    ∙ ap (λ ys. Some (x.On n (x.Try body ys) ∷ done)) (ap (λ ys. clauses_onto ys x.end_of_clauses) (sym (reverse-cons c cs)) ∙ clauses_whole (c ∷ cs))

-- ---- with the trees of the program

-- one layer of a statement
layer : (k : S.StmtKind-F StmtKind branch.Branch ClassDef clause.Clause Function Stmt) → kind_of (roll-StmtKind k) ≡ kind_step (map-StmtKind StmtKind branch.Branch ClassDef clause.Clause Function Stmt Kind x.Branch x.ClassDef x.Clause x.Function Statement kind_of branch_of class_of clause_of function_of statement_of k)
layer = fold-roll-StmtKind Kind x.Branch x.ClassDef x.Clause x.Function Statement kind_step branch_step class_step clause_step function_step statement_step

pub if_kind : (bs : List branch.Branch) (orelse : List Stmt) → kind_of (kind.If bs orelse) ≡ x.If (branches_onto (branches_of bs) x.end_of_branches) (statements_of orelse)
if_kind bs orelse =
    let joined : kind_of (kind.If bs orelse) ≡ x.If (branches (map branch_of bs)) (statements_of orelse) = ap kind_of (sym (kind.rolls-If bs orelse)) ∙ layer (S.If bs orelse) in
    joined ∙ ap (λ all. x.If all (statements_of orelse)) (sym (branches_whole (map branch_of bs)))

map_none : (cs : List clause.Clause) → map clause_of cs ≡ [] → cs ≡ []
map_none [] e = refl
map_none (c ∷ cs) e = absurd cc

pub try_kind : (done : List Statement) (n : ℕ) (body : List Stmt) (cs : List clause.Clause) → (cs ≡ [] → ⊥)
    → settled done (OpenTry n (statements_of body) (clauses_of cs)) ≡ Some (x.On n (kind_of (kind.Try body cs)) ∷ done)
try_kind done n body cs some =
    let joined : kind_of (kind.Try body cs) ≡ x.Try (statements_of body) (clauses (map clause_of cs)) = ap kind_of (sym (kind.rolls-Try body cs)) ∙ layer (S.Try body cs) in
    settled_clauses done n (statements_of body) (map clause_of cs) (λ e. some (map_none cs e)) ∙ ap (λ k. Some (x.On n k ∷ done)) (sym joined)
