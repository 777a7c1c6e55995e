use Rattle.std.proofs.Common.{take}
use Rattle.std.specs.List.{flat_map}
use Rattle.py_tree.specs.Joined.{statement_of}
use Rattle.py_tree.specs.declared.statement.Stmt.{Stmt}
use Rattle.symbols.specs.FirstFaults.{IsFirstOf}
use Rattle.module_load.specs.Imports as rule
use Rattle.module_load.proofs.import_faults.first_statement_fault.Given as goal

abbrev pub invariant-loop-statement : goal.invariant-loop-statement
invariant-loop-statement g l = IsFirstOf (flat_map (λ (s : Stmt). rule.statement_faults (g.K.Known.decisions l.known) l.importing (statement_of s)) (take l.statement-index l.imports)) l.first
