use Rattle.std.proofs.Common.{take}
use Rattle.symbols.specs.FirstFaults.{IsFirstOf}
use Rattle.module_load.specs.Imports as rule
use Rattle.module_load.proofs.import_faults.typing_fault.Given as goal

abbrev pub invariant-loop-import : goal.invariant-loop-import
invariant-loop-import l = IsFirstOf (rule.typing_faults l.line (take l.import-index l.names)) l.first
