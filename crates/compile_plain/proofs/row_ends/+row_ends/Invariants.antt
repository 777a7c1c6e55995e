use Rattle.std.proofs.Common.{◌≡◌, drop}
use Rattle.py_tree.specs.Joined.{branches_of, clauses_of, statements_of}
use Rattle.compile_plain.specs.Statements.{branches_end, clauses_end, rows_end}
use Rattle.compile_plain.specs.Scopes.{names_of}
use Rattle.compile_plain.proofs.row_ends.+row_ends.Given as goal

abbrev pub invariant-end_of_rows-loop-statement : goal.invariant-end_of_rows-loop-statement
invariant-end_of_rows-loop-statement l = rows_end (names_of l.scope) l.end (statements_of (drop l.statement-index l.body)) ≡ rows_end (names_of l.scope) l.place (statements_of l.body)

abbrev pub invariant-end_of_branches-loop-branch : goal.invariant-end_of_branches-loop-branch
invariant-end_of_branches-loop-branch l = branches_end (names_of l.scope) l.end (branches_of (drop l.branch-index l.branches)) ≡ branches_end (names_of l.scope) l.place (branches_of l.branches)

abbrev pub invariant-end_of_clauses-loop-clause : goal.invariant-end_of_clauses-loop-clause
invariant-end_of_clauses-loop-clause l = clauses_end (names_of l.scope) l.end (clauses_of (drop l.clause-index l.clauses)) ≡ clauses_end (names_of l.scope) l.place (clauses_of l.clauses)
