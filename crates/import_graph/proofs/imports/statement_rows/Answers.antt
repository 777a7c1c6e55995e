use Rattle.std.proofs.Common.{◌≡◌, map, sym, ap, ◌∙◌}
use Rattle.py_tree.specs.declared.statement.Import.{Import}
use Rattle.import_graph.proofs.Fronts.{from_rows, made_rows}
use Rattle.import_graph.proofs.imports.statement_rows.Goals as goal

pub returns-in_ok-push-in-From : goal.returns-in_ok-push-in-From
returns-in_ok-push-in-From c =
    let r = from_rows c.args.statement.now c.in-From.module c.in-From.names c.in-From.is in
    let taken : c.in_ok-taken_names-in-From.field-0 ≡ map (λ (i : Import). i.name) c.in-From.names =
    c.in_ok-taken_names-in-From.ensures ∙ ap (map (λ (i : Import). i.name)) c.as_slice-in-From.ensures in (
      r.0,
      made_rows c.new-rows.result c.push.new.self c.args.statement.now.line c.in-From.module c.in_ok-copy-in-From.field-0 (map (λ (i : Import). i.name) c.in-From.names) c.in_ok-taken_names-in-From.field-0
          c.new-rows.ensures c.in_ok-copy-in-From.ensures.equal taken c.in_ok-push-in-From.ensures.ok
          ∙ sym r.1,
    )
