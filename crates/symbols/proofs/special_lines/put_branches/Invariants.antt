use Rattle.std.proofs.Common.{◌≡◌, ◌++◌, drop}
use Rattle.py_tree.specs.Joined.{branches_of}
use Rattle.symbols.specs.Contexts.{context_of}
use Rattle.symbols.specs.SpecialNames.{branch_lines}
use Rattle.symbols.proofs.special_lines.put_branches.Given as goal

abbrev pub invariant-loop-branch : goal.invariant-loop-branch
invariant-loop-branch l = l.lines ++ branch_lines (context_of l.context) (branches_of (drop l.branch-index l.branches)) ≡ l.initial.lines ++ branch_lines (context_of l.context) (branches_of l.branches)
