use Rattle.std.proofs.Common.{take}
use Rattle.std.specs.List.{flat_map}
use Rattle.py_tree.specs.declared.statement.Import.{Import}
use Rattle.symbols.specs.FirstFaults.{IsFirstOf}
use Rattle.module_load.specs.Imports as rule
use Rattle.module_load.proofs.import_faults.first_module_fault.Given as goal

abbrev pub invariant-loop-import : goal.invariant-loop-import
invariant-loop-import g l = IsFirstOf (flat_map (λ (i : Import). rule.module_faults (g.K.Known.decisions l.known) l.line i.name) (take l.import-index l.names)) l.first
