-- One row on.
use Rattle.std.proofs.Common.{◌≡◌, ◌==◌, List, Option, Some, None, Bor, length, ap, ◌∙◌}
use Rattle.std.specs.Prelude.{if◌then◌else◌}
use Rattle.std.specs.Option.{option_or}
use Rattle.registry_core.proofs.Lists.{whole_written}
use Rattle.module_load.specs.Needs.{in_table}
use Rattle.module_load.specs.declared.verdict.Verdict.{Verdict}
use Rattle.module_load.proofs.Needs.{table_turn}
use Rattle.module_load.proofs.needed.by_number.Goals as goal

pub loop-row-preserved : goal.loop-row-preserved
loop-row-preserved c =
    let rows = c.as_slice-row-items.result.now in
    let old = c.loop-row.table.items in
    let new = c.keep.new.table in
    let same : length new ≡ length old = c.keep.auto.table ∙ ap length c.as_mut_slice.ensures.value in
    rw (whole_written new old c.loop-row.table.len same c.loop-row.table.ok.0) (table_turn c.args.count rows c.loop-row.row-index c.row-item.result old new c.deref.result.now c.loop-row-test.true c.row-item.is c.deref.ensures same
    (λ n. c.keep.ensures n ∙ ap (λ (ts : List (Option (Bor Verdict))). option_or (in_table ts (Some n)) (if c.row-item.result.module == n then Some c.deref.result.now else None)) c.as_mut_slice.ensures.value) c.loop-row.invariant)
