use Rattle.std.proofs.Common.{◌≡◌, map, take}
use Rattle.module_load.specs.Folders.{direct_imports, names_of, states_of}
use Rattle.module_load.proofs.folder.graph_of.Given as goal

abbrev pub invariant-loop-source : goal.invariant-loop-source
invariant-loop-source l = l.rows ≡ map (direct_imports (names_of l.list)) (states_of (take l.source-index l.list))
