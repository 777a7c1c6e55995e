use Rattle.std.proofs.Common.{List, map, sym, ap, ◌∙◌}
use Rattle.std.specs.List.{find}
use Rattle.py_tree.specs.Syntax.{Statement}
use Rattle.py_tree.specs.Joined.{statement_of}
use Rattle.py_tree.specs.declared.code.Code.TheVariants.{NotBuilt}
use Rattle.module_load.specs.Bodies.{fault_at, is_unbuilt, listed}
use Rattle.module_load.proofs.Statements.{listed_is}
use Rattle.module_load.proofs.body.unbuilt.Goals as goal

pub returns : goal.returns
returns c =
    let behind = c.behind_docstring.result.now in
    c.first_unbuilt.ensures ∙ ap (λ (ss : List Statement). fault_at NotBuilt (find is_unbuilt ss)) (sym (listed_is (map statement_of behind)) ∙ ap listed c.behind_docstring.ensures)
