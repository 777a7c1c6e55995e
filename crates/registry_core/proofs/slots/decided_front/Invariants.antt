use Rattle.std.proofs.Common.{◌≡◌, true, take}
use Rattle.registry_core.specs.Slots.{all_decided}
use Rattle.registry_core.proofs.slots.decided_front.Given as goal

abbrev pub invariant-loop-at : goal.invariant-loop-at
invariant-loop-at l = all_decided l.slots (take l.at l.modules) ≡ true
