use Rattle.std.proofs.Common.{ℕ, Option, sym, ap, subst}
use Rattle.import_graph.specs.Graph.{IsRefusedAt}
use Rattle.import_graph.specs.declared.links.Links.{Links}
use Rattle.import_graph.proofs.ByChains.{cyclic_line_is}
use Rattle.import_graph.proofs.graph.Graph.cyclic.Goals as goal

pub returns-clause-exact : goal.returns-clause-exact
returns-clause-exact c =
    subst (λ (line : Option ℕ). IsRefusedAt c.args.self.now c.args.module line) (sym (ap (λ (l : Links). l.cyclic) c.links.ensures.value))
    (cyclic_line_is c.args.self.now c.args.module)
