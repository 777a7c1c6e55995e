use Rattle.std.proofs.Common.{ℕ, List, sym, ap, ◌∙◌, subst}
use Rattle.import_graph.specs.Graph.{IsListOf, Needs}
use Rattle.import_graph.specs.declared.links.Links.{Links}
use Rattle.import_graph.proofs.ByChains.{need_list}
use Rattle.import_graph.proofs.graph.Graph.need.Goals as goal

pub returns-clause-exact : goal.returns-clause-exact
returns-clause-exact c =
    subst (λ (ns : List ℕ). IsListOf (Needs c.args.self.now c.args.module) ns) (sym (c.as_slice.ensures ∙ ap (λ (l : Links). l.need) c.links.ensures.value)) (need_list c.args.self.now c.links.ensures.whole c.args.module)
