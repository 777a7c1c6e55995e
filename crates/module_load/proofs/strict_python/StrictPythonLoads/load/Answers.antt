use Rattle.std.proofs.Common.{◌≡◌, None, sym, ◌∙◌}
use Rattle.std.proofs.lemmas.Result.{IfOk-weaker}
use Rattle.py_tree.specs.Joined.{module_of}
use Rattle.import_graph.specs.Closure.{cyclic_line}
use Rattle.import_graph.specs.World.{needs}
use Rattle.registry_core.specs.Verdicts.{rules_of}
use Rattle.module_load.specs.declared.verdict.Verdict.{Verdict}
use Rattle.module_load.specs.Folders.{names_of}
use Rattle.module_load.specs.Right.{is_refused, known_in, right}
use Rattle.module_load.specs.RightDecisions.{IsRight}
use Rattle.module_load.proofs.Loading.{as_list, rows_within, tree_right}
use Rattle.module_load.proofs.strict_python.StrictPythonLoads.load.Goals as goal

pub load_tree-requires-clause-within : goal.load_tree-requires-clause-within
load_tree-requires-clause-within c = rows_within c.args.self.now c.args.all.now c.args.module c.args.imports.now.rows c.requires.imports

pub returns-in-Tree : goal.returns-in-Tree
returns-in-Tree c =
    let all = c.args.all.now in
    let m = c.args.module in
    let rows = c.args.imports.now.rows in
    let s = c.at-source.result.now in
    let tree = c.in-Tree.tree in
    let loose : cyclic_line all.graph m ≡ None = sym c.cyclic.ensures.value ∙ c.in_default.is in
    IfOk-weaker c.load_tree.result
    (λ (v : Verdict). (decision : Verdict) → IsRight (known_in (names_of all.list) (as_list rows)) s.name m (module_of tree) decision → decision ≡ v)
    (λ (v : Verdict). v ≡ right all m (needs (rules_of (λ l all m list. right all m list) is_refused c.args.self.now all) m))
    (λ v only. tree_right c.args.self.now all m rows s tree v c.requires.imports loose c.at-source.ensures c.in-Tree.is only)
    c.load_tree.ensures
