use Rattle.std.proofs.Common.{◌≡◌, List, map, ap, ◌∙◌}
use Rattle.std.proofs.lemmas.List.{take_all}
use Rattle.import_graph.specs.Graph.{is_graph}
use Rattle.module_load.specs.declared.source.Source.{Source}
use Rattle.module_load.specs.Folders.{direct_imports, names_of, states_of, graph_of}
use Rattle.module_load.proofs.Folders.{graph_whole}
use Rattle.module_load.proofs.folder.graph_of.Goals as goal

pub build_graph-requires-clause-modules : goal.build_graph-requires-clause-modules
build_graph-requires-clause-modules c =
    let list = c.args.list.now in
    let all : c.loop-source.rows ≡ graph_of list =
    c.loop-source.invariant ∙ ap (λ (xs : List Source). map (direct_imports (names_of list)) (states_of xs)) (take_all c.loop-source.source-index list c.loop-source-test.false) in
    ap is_graph all ∙ graph_whole list
