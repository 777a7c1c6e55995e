use Rattle.std.proofs.Common.{◌≡◌, false, take}
use Rattle.std.specs.List.{list_any}
use Rattle.module_load.specs.Right.{is_refused}
use Rattle.strict_top.proofs.run.some_refused.Given as goal

-- none of the modules so far is refused
abbrev pub invariant-loop-module : goal.invariant-loop-module
invariant-loop-module l = record { none : list_any is_refused (take l.module l.world) ≡ false }
