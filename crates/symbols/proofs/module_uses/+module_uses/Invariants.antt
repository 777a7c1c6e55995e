use Rattle.std.proofs.Common.{◌≡◌, ◌++◌, drop}
use Rattle.py_tree.specs.Joined.{branches_of, clauses_of, statements_of}
use Rattle.symbols.specs.Contexts.{context_of}
use Rattle.symbols.specs.StaticUses.{block_uses, branches_uses, clauses_uses}
use Rattle.symbols.proofs.module_uses.+module_uses.Given as goal

abbrev pub invariant-put_block-loop-statement : goal.invariant-put_block-loop-statement
invariant-put_block-loop-statement l = l.all ++ block_uses (context_of l.context) (statements_of (drop l.statement-index l.body)) ≡ l.initial.all ++ block_uses (context_of l.context) (statements_of l.body)

abbrev pub invariant-put_branches-loop-branch : goal.invariant-put_branches-loop-branch
invariant-put_branches-loop-branch l = l.all ++ branches_uses (context_of l.context) (branches_of (drop l.branch-index l.branches)) ≡ l.initial.all ++ branches_uses (context_of l.context) (branches_of l.branches)

abbrev pub invariant-put_clauses-loop-clause : goal.invariant-put_clauses-loop-clause
invariant-put_clauses-loop-clause l = l.all ++ clauses_uses (context_of l.context) l.line (clauses_of (drop l.clause-index l.clauses)) ≡ l.initial.all ++ clauses_uses (context_of l.context) l.line (clauses_of l.clauses)
