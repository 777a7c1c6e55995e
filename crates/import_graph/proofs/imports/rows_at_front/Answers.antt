use Rattle.std.proofs.Common.{◌≡◌, ◌+◌, ◌++◌, List, true, false, drop, ap, ◌∙◌}
use Rattle.py_tree.specs.Joined.{kind_of, statement_of}
use Rattle.py_tree.specs.TopPart.{is_import}
use Rattle.py_tree.specs.declared.statement.Stmt.{Stmt}
use Rattle.import_graph.specs.declared.imports.ImportRow.{ImportRow}
use Rattle.import_graph.specs.Imports.{rows_of}
use Rattle.import_graph.proofs.Fronts.{next_rows, front_rows, told}
use Rattle.import_graph.proofs.imports.rows_at_front.Goals as goal

pub loop-statement-preserved : goal.loop-statement-preserved
loop-statement-preserved c =
    let body : List Stmt = c.args.body.now in
    let statement : Stmt = c.statement-item.result in
    let known = told c.in_ok-named.field-0 c.in-Some.named (is_import (kind_of statement.kind) ≡ false) (λ rows. (is_import (kind_of statement.kind) ≡ true) × (rows ≡ rows_of (statement_of statement))) c.in-Some.is c.in_ok-named.ensures in
    ap (λ (rows : List ImportRow). rows ++ front_rows (drop (c.loop-statement.statement-index + 1) body)) c.in_ok-append-in-Some.ensures
    ∙ next_rows body c.loop-statement.statement-index statement c.loop-statement.rows c.in-Some.named (front_rows body) c.loop-statement-test.true c.statement-item.is known.0 known.1 c.loop-statement.invariant
