-- The rows of the import statements at the front of a body.
use Rattle.std.proofs.Common.{◌≡◌, ℕ, suc, ◌<◌, ◌+◌, Bool, true, if◌then◌else◌, List, [], ◌∷◌, ◌++◌, length, drop, add-one, drop-cons, get_or, map, append_assoc, Option, Some, MatchOption, sym, ap, ◌∙◌, subst}
use Rattle.std.specs.List.{flat_map}
use Rattle.py_tree.specs.Syntax as x
use Rattle.py_tree.specs.Syntax.{Statements, Statement, Kind}
use Rattle.py_tree.specs.Joined.{statements_of, statement_of, kind_of, kind_step, branch_step, class_step, clause_step, function_step, statement_step}
use Rattle.py_tree.specs.TopPart.{is_import, imports_at_front}
use Rattle.py_tree.specs.declared.statement.Stmt.{Stmt, fold_out-Stmt}
use Rattle.py_tree.specs.declared.statement.Import.{Import}
use Rattle.py_tree.specs.declared.statement.StmtKind.{fold-roll-StmtKind}
use Rattle.py_tree.specs.declared.statement.StmtKind.TheOpen as S
use Rattle.py_tree.specs.declared.statement.StmtKind.TheVariants as variant
use Rattle.import_graph.specs.declared.imports.ImportRow.{ImportRow}
use Rattle.import_graph.specs.Imports.{rows_of}

-- what the import statements at the front name
abbrev pub front_rows : List Stmt → List ImportRow
front_rows body = flat_map rows_of (imports_at_front (statements_of body))

-- the syntax of a statement is its line with the syntax of its kind
pub statement_is : (s : Stmt) → statement_of s ≡ x.On s.line (kind_of s.kind)
statement_is s = fold_out-Stmt Kind x.Branch x.ClassDef x.Clause x.Function Statement kind_step branch_step class_step clause_step function_step statement_step s

pub from_is : (from : List ℕ) (names : List Import) → kind_of (variant.From from names) ≡ x.From from names
from_is from names = ap kind_of (sym (variant.rolls-From from names)) ∙ fold-roll-StmtKind Kind x.Branch x.ClassDef x.Clause x.Function Statement kind_step branch_step class_step clause_step function_step statement_step (S.From from names)

-- the row of a `from`
pub from_rows : (statement : Stmt) (from : List ℕ) (names : List Import) → statement.kind ≡ variant.From from names
    → (is_import (kind_of statement.kind) ≡ true) × (rows_of (statement_of statement) ≡ record { line = statement.line; «module» = from; names = map (λ (i : Import). i.name) names } ∷ [])
from_rows statement from names e =
    let kind : kind_of statement.kind ≡ x.From from names = ap kind_of e ∙ from_is from names in
    (ap is_import kind, ap rows_of (statement_is statement ∙ ap (x.On statement.line) kind))

import_first : (statement : Stmt) (rest : List Stmt) → is_import (kind_of statement.kind) ≡ true → front_rows (statement ∷ rest) ≡ rows_of (statement_of statement) ++ front_rows rest
import_first statement rest h =
    ap (λ (s : Statement). flat_map rows_of (imports_at_front (x.more_statements s (statements_of rest)))) (statement_is statement)
    ∙ ap (λ (b : Bool). flat_map rows_of (if b then x.On statement.line (kind_of statement.kind) ∷ imports_at_front (statements_of rest) else [])) h
    ∙ ap (λ (s : Statement). rows_of s ++ front_rows rest) (sym (statement_is statement))

-- the rows of a `from`, as the code makes them
pub made_rows : (empty made : List ImportRow) (line : ℕ) (from copied : List ℕ) (names taken : List (List ℕ)) → empty ≡ [] → copied ≡ from → taken ≡ names
    → made ≡ empty ++ record { line = line; «module» = copied; names = taken } ∷ [] → made ≡ record { line = line; «module» = from; names = names } ∷ []
made_rows empty made line from copied names taken e f g h = h ∙ λ i. e i ++ record { line = line; «module» = f i; names = g i } ∷ []

-- what is told of a list that is there
pub told : {A : Type 0} (o : Option A) (a : A) (P : Type 0) (Q : A → Type 0) → o ≡ Some a → MatchOption o P Q → Q a
told o a P Q e h = subst (λ x. MatchOption x P Q) e h

-- the rows of a statement behind those before it
pub next_rows : (body : List Stmt) (k : ℕ) (statement : Stmt) (rows more all : List ImportRow) → k < length body → statement ≡ get_or body k statement → is_import (kind_of statement.kind) ≡ true → more ≡ rows_of (statement_of statement)
    → rows ++ front_rows (drop k body) ≡ all → (rows ++ more) ++ front_rows (drop (k + 1) body) ≡ all
next_rows body k statement rows more all within is import same before =
    let here : drop k body ≡ statement ∷ drop (k + 1) body = drop-cons body k statement within ∙ ap (λ (s : Stmt). s ∷ drop (suc k) body) (sym is) ∙ ap (λ (j : ℕ). statement ∷ drop j body) (sym (add-one k)) in
    append_assoc rows more (front_rows (drop (k + 1) body))
    ∙ ap (λ (front : List ImportRow). rows ++ (front ++ front_rows (drop (k + 1) body))) same
    ∙ ap (λ (front : List ImportRow). rows ++ front) (sym (import_first statement (drop (k + 1) body) import) ∙ ap front_rows (sym here))
    ∙ before
