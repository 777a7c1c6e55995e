use Rattle.std.proofs.Common.{ℕ, List, sym, ap, ◌∙◌, subst}
use Rattle.import_graph.specs.Graph.{IsListOf, Reaches}
use Rattle.import_graph.specs.declared.links.Links.{Links}
use Rattle.import_graph.proofs.ByChains.{reached_list}
use Rattle.import_graph.proofs.graph.Graph.reached.Goals as goal

pub returns-clause-exact : goal.returns-clause-exact
returns-clause-exact c =
    subst (λ (ns : List ℕ). IsListOf (Reaches c.args.self.now c.args.module) ns) (sym (c.as_slice.ensures ∙ ap (λ (l : Links). l.reached) c.links.ensures.value)) (reached_list c.args.self.now c.links.ensures.whole c.args.module)
