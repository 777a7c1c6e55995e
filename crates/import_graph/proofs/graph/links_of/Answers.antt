use Rattle.std.proofs.Common.{◌≡◌, ℕ, length, ◌∙◌}
use Rattle.import_graph.specs.Graph.{Rows, imports}
use Rattle.import_graph.specs.Closure.{reaches, cut, direct_of, reached_of, need_of}
use Rattle.import_graph.proofs.RowFacts.{listed_of, listed_direct, listed_reached, listed_need}
use Rattle.import_graph.proofs.graph.links_of.Goals as goal

pub returns : goal.returns
returns c =
    let rows : Rows = c.args.rows.now in
    let m : ℕ = c.args.module in
    let direct : c.in_ok-listed.field-0 ≡ direct_of rows m = listed_of (imports rows) (length rows) m c.args.imported.now c.in_ok-listed.field-0 c.requires.imported c.in_ok-listed.ensures ∙ listed_direct rows m in
    let reached : c.in_ok-listed-2.field-0 ≡ reached_of rows m = listed_of (reaches rows) (length rows) m c.args.reached.now c.in_ok-listed-2.field-0 c.requires.reached c.in_ok-listed-2.ensures ∙ listed_reached rows m in
    let need : c.in_ok-listed-3.field-0 ≡ need_of rows m = listed_of (reaches (cut rows)) (length rows) m c.args.needed.now c.in_ok-listed-3.field-0 c.requires.needed c.in_ok-listed-3.ensures ∙ listed_need rows m in
    λ i. record { direct = direct i; reached = reached i; need = need i; cyclic = c.line_back.ensures i }
