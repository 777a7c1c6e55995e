use Rattle.std.proofs.Common.{◌≡◌, ◌<◌, ◌+◌, ◌/◌, ℕ, List, Some, length, slice_index_or, refl, sym, ap, ◌∙◌, arith}
use Rattle.std.specs.Prelude.{slice_get}
use Rattle.import_graph.specs.declared.rows.DirectImport.{DirectImport}
use Rattle.import_graph.specs.Graph.{Rows}
use Rattle.import_graph.specs.Closure.{reaches}
use Rattle.import_graph.proofs.RowFacts.{named_at, named_row, line_of_row, line_here, line_later, line_none, table_tells, table_room}
use Rattle.import_graph.proofs.graph.line_back.Goals as goal

-- the import at hand names a module
abbrev first : DirectImport
first = record { line = 0; «module» = 0 }

pub bounds-reached-import : goal.bounds-reached-import
bounds-reached-import c =
    let rows : Rows = c.args.rows.now in
    let row : List DirectImport = c.as_slice-import-items.result.now in
    let named = named_row rows c.args.module (length rows) row c.requires.modules (c.at.ensures ∙ ap Some (sym c.as_slice-import-items.ensures)) refl in
    omega (arith, named_at (length rows) row c.loop-import.import-index first named c.loop-import-test.true, c.requires.reached.all)

pub has-requires : goal.has-requires
has-requires c =
    let rows : Rows = c.args.rows.now in
    let row : List DirectImport = c.as_slice-import-items.result.now in
    let named = named_row rows c.args.module (length rows) row c.requires.modules (c.at.ensures ∙ ap Some (sym c.as_slice-import-items.ensures)) refl in
    let k : ℕ = (slice_index_or row c.loop-import.import-index first).module in
    let within : k < length rows = named_at (length rows) row c.loop-import.import-index first named c.loop-import-test.true in
    let room = table_room (reaches rows) (length rows) c.args.reached.now k c.index-reached-import.result c.requires.reached within c.index-reached-import.is in
    room_enough c.args.module (length rows) (length c.index-reached-import.result) c.requires.within room
  where
    room_enough : (m count words : ℕ) → m < count → words ≡ count / 64 + 1 → m / 64 < words
    room_enough m count words l e = grind arith

pub returns-then-has : goal.returns-then-has
returns-then-has c =
    let rows : Rows = c.args.rows.now in
    let row : List DirectImport = c.as_slice-import-items.result.now in
    let there : slice_get rows c.args.module ≡ Some row = c.at.ensures ∙ ap Some (sym c.as_slice-import-items.ensures) in
    let named = named_row rows c.args.module (length rows) row c.requires.modules there refl in
    let k : ℕ = (slice_index_or row c.loop-import.import-index first).module in
    let within : k < length rows = named_at (length rows) row c.loop-import.import-index first named c.loop-import-test.true in
    let tells = table_tells (reaches rows) (length rows) c.args.reached.now k c.args.module c.index-reached-import.result c.requires.reached within c.requires.within c.index-reached-import.is in
    sym (line_here rows c.args.module c.loop-import.import-index row first c.loop-import-test.true (sym tells ∙ sym c.has.ensures ∙ c.if-has.true)) ∙ c.loop-import.invariant ∙ line_of_row rows c.args.module row there

pub loop-import-preserved : goal.loop-import-preserved
loop-import-preserved c =
    let rows : Rows = c.args.rows.now in
    let row : List DirectImport = c.as_slice-import-items.result.now in
    let there : slice_get rows c.args.module ≡ Some row = c.at.ensures ∙ ap Some (sym c.as_slice-import-items.ensures) in
    let named = named_row rows c.args.module (length rows) row c.requires.modules there refl in
    let k : ℕ = (slice_index_or row c.loop-import.import-index first).module in
    let within : k < length rows = named_at (length rows) row c.loop-import.import-index first named c.loop-import-test.true in
    let tells = table_tells (reaches rows) (length rows) c.args.reached.now k c.args.module c.index-reached-import.result c.requires.reached within c.requires.within c.index-reached-import.is in
    line_later rows c.args.module c.loop-import.import-index row first c.loop-import-test.true (sym tells ∙ sym c.has.ensures ∙ c.if-has.false) ∙ c.loop-import.invariant

pub returns : goal.returns
returns c =
    let rows : Rows = c.args.rows.now in
    let row : List DirectImport = c.as_slice-import-items.result.now in
    let there : slice_get rows c.args.module ≡ Some row = c.at.ensures ∙ ap Some (sym c.as_slice-import-items.ensures) in
    sym (line_none rows c.args.module c.loop-import.import-index row c.loop-import-test.false) ∙ c.loop-import.invariant ∙ line_of_row rows c.args.module row there
