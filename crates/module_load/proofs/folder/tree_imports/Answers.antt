-- One statement on, and behind the last.
use Rattle.std.proofs.Common.{ap, ◌∙◌}
use Rattle.std.specs.List.{filter_map, flat_map}
use Rattle.std.proofs.lemmas.List.{take_all}
use Rattle.py_tree.specs.Joined.{statements_of}
use Rattle.py_tree.specs.TopPart.{top_imports}
use Rattle.import_graph.specs.Imports.{rows_of}
use Rattle.module_load.specs.Folders.{direct_import, names_of}
use Rattle.module_load.proofs.Folders.{direct_in, direct_turn}
use Rattle.module_load.proofs.folder.tree_imports.Goals as goal

pub loop-statement-preserved : goal.loop-statement-preserved
loop-statement-preserved c =
    direct_turn (names_of c.args.list.now) c.top_imports-statement-items.result.now c.loop-statement.statement-index c.statement-item.result _ _ c.loop-statement-test.true c.statement-item.is c.in_ok-put_statement.ensures c.loop-statement.invariant

pub returns : goal.returns
returns c =
    let names = names_of c.args.list.now in
    c.loop-statement.invariant
    ∙ ap (direct_in names) (take_all c.loop-statement.statement-index _ c.loop-statement-test.false)
    ∙ ap (λ ss. filter_map (direct_import names) (flat_map rows_of ss)) c.top_imports-statement-items.ensures
    ∙ ap (λ body. filter_map (direct_import names) (flat_map rows_of (top_imports (statements_of body)))) c.as_slice.ensures
