use Rattle.std.proofs.Common.{◌≡◌, ◌++◌, drop}
use Rattle.py_tree.specs.Joined.{clauses_of}
use Rattle.symbols.specs.Contexts.{context_of}
use Rattle.symbols.specs.SpecialNames.{clause_lines}
use Rattle.symbols.proofs.special_lines.put_clauses.Given as goal

abbrev pub invariant-loop-clause : goal.invariant-loop-clause
invariant-loop-clause l = l.lines ++ clause_lines (context_of l.context) l.line (clauses_of (drop l.clause-index l.clauses)) ≡ l.initial.lines ++ clause_lines (context_of l.context) l.line (clauses_of l.clauses)
