use Rattle.std.proofs.Common.{◌≡◌, ◌++◌, drop}
use Rattle.std.specs.List.{flat_map}
use Rattle.module_load.specs.Outers as rule
use Rattle.module_load.proofs.outer.put_modules.Given as goal

abbrev pub invariant-loop-import : goal.invariant-loop-import
invariant-loop-import l = l.bindings ++ flat_map rule.module_bindings (drop l.import-index l.names) ≡ l.initial.bindings ++ flat_map rule.module_bindings l.names
