use Rattle.std.proofs.Common.{◌≡◌, ℕ, map, take, length, Some}
use Rattle.std.specs.Prelude.{slice_get}
use Rattle.std.specs.Arc.{arc_value}
use Rattle.std.specs.declared.sync.Arc.{Arc}
use Rattle.std.specs.declared.alloc.Global.{Global}
use Rattle.registry_core.specs.declared.imports.Import.{Import}
use Rattle.registry_core.specs.Machine.{verdict_at}
use Rattle.registry_core.proofs.slots.gather.Given as goal

abbrev pub invariant-loop-module : goal.invariant-loop-module
invariant-loop-module g l = record {
  modules : map (λ (r : Import g.row.V.Denot). r.module) l.into.rows ≡ take l.module-index l.need;
  verdicts : (k : ℕ) (r : Import g.row.V.Denot) → slice_get l.into.rows k ≡ Some r → (a : Arc g.row.V.Denot Global) × (verdict_at l.verdicts r.module ≡ Some a) × (arc_value a ≡ arc_value r.verdict);
  count : length l.into.rows ≡ l.module-index;
  room : l.into.room ≡ l.initial.into.room;
}
