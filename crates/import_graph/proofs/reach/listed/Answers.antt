use Rattle.std.proofs.Common.{◌≡◌, ℕ, List, IfOk, subst}
use Rattle.import_graph.proofs.RowFacts.{listed_is}
use Rattle.import_graph.proofs.reach.listed.Goals as goal

pub returns : goal.returns
returns c test table =
    subst (λ (ns : List ℕ). IfOk c.numbers.result (λ made. made ≡ ns)) (listed_is test c.args.table.now c.args.at c.index-table-at.result table c.requires.within c.index-table-at.is) c.numbers.ensures
