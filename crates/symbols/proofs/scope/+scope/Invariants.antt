use Rattle.std.proofs.Common.{◌≡◌, ◌++◌, drop}
use Rattle.py_tree.specs.Joined.{branches_of, clauses_of, statements_of}
use Rattle.py_tree.specs.Order.{in_branches, in_clauses, of_scope}
use Rattle.symbols.specs.Views.{seen}
use Rattle.symbols.proofs.scope.+scope.Given as goal

abbrev pub invariant-put_block-loop-statement : goal.invariant-put_block-loop-statement
invariant-put_block-loop-statement l = seen l.all.items ++ of_scope (statements_of (drop l.statement-index l.body)) ≡ seen l.initial.all.items ++ of_scope (statements_of l.body)

abbrev pub invariant-put_branches-loop-branch : goal.invariant-put_branches-loop-branch
invariant-put_branches-loop-branch l = seen l.all.items ++ in_branches (branches_of (drop l.branch-index l.branches)) ≡ seen l.initial.all.items ++ in_branches (branches_of l.branches)

abbrev pub invariant-put_clauses-loop-clause : goal.invariant-put_clauses-loop-clause
invariant-put_clauses-loop-clause l = seen l.all.items ++ in_clauses (clauses_of (drop l.clause-index l.clauses)) ≡ seen l.initial.all.items ++ in_clauses (clauses_of l.clauses)
