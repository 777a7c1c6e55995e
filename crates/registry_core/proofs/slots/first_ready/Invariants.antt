use Rattle.std.proofs.Common.{◌≡◌, ℕ, ◌<◌, false}
use Rattle.import_graph.specs.Closure.{direct_of, is_cyclic}
use Rattle.registry_core.specs.Slots.{is_ready}
use Rattle.registry_core.specs.Kept.{HasFronts}
use Rattle.registry_core.proofs.slots.first_ready.Given as goal

abbrev pub invariant-loop-module : goal.invariant-loop-module
invariant-loop-module l = record {
  unready : (m : ℕ) → m < l.module → is_ready (direct_of l.graph) (is_cyclic l.graph) l.slots m ≡ false;
  fronts : HasFronts l.graph l.slots l.fronts;
}
