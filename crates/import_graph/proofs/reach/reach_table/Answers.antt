use Rattle.std.proofs.Common.{◌≡◌, ◌<◌, ◌+◌, ℕ, List, [], length, sym, ◌∙◌, subst, arith}
use Rattle.std.proofs.lemmas.List.{get_or_default}
use Rattle.std.specs.Prelude.{slice_index_or}
use Rattle.import_graph.specs.Closure.{reaches_below}
use Rattle.import_graph.specs.Sets.{IsTable, IsPassedOn}
use Rattle.import_graph.proofs.Tables.{table_first, table_step, table_last, lent_whole}
use Rattle.import_graph.proofs.reach.reach_table.Goals as goal

pub loop-by-init : goal.loop-by-init
loop-by-init c = table_first c.args.rows.now c.in_ok-table.table.items c.in_ok-table.ensures

pub loop-by-preserved : goal.loop-by-preserved
loop-by-preserved c =
    let rows = c.args.rows.now in
    let old = c.loop-by.table.items in
    let new = c.pass_on.new.table in
    let within : c.loop-by.by < length rows = omega (arith, c.loop-by-test.true, c.len-by-end.ensures, c.in_ok-table.table.ok, c.in_ok-table.ensures.all) in
    let inside : c.loop-by.by < length old = omega (arith, within, c.loop-by.invariant.all) in
    let from : c.in_ok-from.from ≡ slice_index_or old c.loop-by.by [] = c.in_ok-from.ensures ∙ c.index.ensures ∙ get_or_default old c.loop-by.by c.index.result.now [] inside in
    let passed : IsPassedOn c.loop-by.by c.in_ok-from.from old new = subst (λ (sets : List (List ℕ)). IsPassedOn c.loop-by.by c.in_ok-from.from sets new) c.as_mut_slice.ensures.value c.pass_on.ensures in
    subst (λ (sets : List (List ℕ)). IsTable (reaches_below rows (c.loop-by.by + 1)) (length rows) sets)
    (sym (lent_whole new old c.loop-by.table.len passed.all c.loop-by.table.ok.0))
    (table_step rows c.loop-by.by c.in_ok-from.from old new within from c.loop-by.invariant passed)

pub returns : goal.returns
returns c =
    table_last c.args.rows.now c.loop-by.by c.loop-by.table.items
    (omega (arith, c.loop-by-test.false, c.loop-by.auto.by-end, c.len-by-end.ensures, c.in_ok-table.table.ok, c.in_ok-table.ensures.all)) c.loop-by.invariant
