use Rattle.std.proofs.Common.{◌≡◌, ◌++◌, drop}
use Rattle.py_tree.specs.Joined.{branches_of, clauses_of, statements_of}
use Rattle.compile_plain.specs.Statements.{branches_code, branches_end, clauses_code, clauses_end, rows_code, rows_end}
use Rattle.compile_plain.specs.Scopes.{names_of}
use Rattle.compile_plain.proofs.stmts.+stmts.Given as goal

abbrev pub invariant-put_rows-loop-statement : goal.invariant-put_rows-loop-statement
invariant-put_rows-loop-statement l =
    (l.block.cells ++ rows_code (names_of l.site.scope.now) l.site.targets l.block.end (statements_of (drop l.statement-index l.body)) ≡ l.initial.block.cells ++ rows_code (names_of l.site.scope.now) l.site.targets l.initial.block.end (statements_of l.body))
    × (rows_end (names_of l.site.scope.now) l.block.end (statements_of (drop l.statement-index l.body)) ≡ rows_end (names_of l.site.scope.now) l.initial.block.end (statements_of l.body))

abbrev pub invariant-put_branches-loop-branch : goal.invariant-put_branches-loop-branch
invariant-put_branches-loop-branch l =
    (l.block.cells ++ branches_code (names_of l.site.scope.now) l.site.targets l.end l.block.end (branches_of (drop l.branch-index l.branches)) ≡ l.initial.block.cells ++ branches_code (names_of l.site.scope.now) l.site.targets l.end l.initial.block.end (branches_of l.branches))
    × (branches_end (names_of l.site.scope.now) l.block.end (branches_of (drop l.branch-index l.branches)) ≡ branches_end (names_of l.site.scope.now) l.initial.block.end (branches_of l.branches))

abbrev pub invariant-put_clauses-loop-clause : goal.invariant-put_clauses-loop-clause
invariant-put_clauses-loop-clause l =
    (l.block.cells ++ clauses_code (names_of l.site.scope.now) l.site.targets l.release l.block.end (clauses_of (drop l.clause-index l.clauses)) ≡ l.initial.block.cells ++ clauses_code (names_of l.site.scope.now) l.site.targets l.release l.initial.block.end (clauses_of l.clauses))
    × (clauses_end (names_of l.site.scope.now) l.block.end (clauses_of (drop l.clause-index l.clauses)) ≡ clauses_end (names_of l.site.scope.now) l.initial.block.end (clauses_of l.clauses))
