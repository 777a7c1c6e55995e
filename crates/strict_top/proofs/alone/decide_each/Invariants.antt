use Rattle.std.proofs.Common.{◌≡◌, ◌<◌, ◌≤◌, false}
use Rattle.std.specs.Prelude.{count_by}
use Rattle.std.specs.List.{list_any}
use Rattle.registry_core.specs.Named.{module_count}
use Rattle.registry_core.specs.Slots.{is_claimed, is_waiting, is_withdrawn}
use Rattle.strict_top.proofs.alone.decide_each.Given as goal

abbrev pub invariant-loop-claim : goal.invariant-loop-claim
invariant-loop-claim g l = record {
  part : 0 < l.share.parts;
  room : module_count g.N.Naming ≤ l.room.room;
  none_claimed : list_any is_claimed l.registry.slots ≡ false;
  none_withdrawn : list_any is_withdrawn l.registry.slots ≡ false;
}

abbrev pub decreases-loop-claim : goal.decreases-loop-claim
decreases-loop-claim g l = count_by is_waiting l.registry.slots
