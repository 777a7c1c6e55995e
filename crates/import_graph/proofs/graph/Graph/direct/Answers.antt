use Rattle.std.proofs.Common.{◌≡◌, true, ℕ, List, sym, ap, ◌∙◌, subst}
use Rattle.import_graph.specs.Graph.{IsListOf, imports}
use Rattle.import_graph.specs.declared.links.Links.{Links}
use Rattle.import_graph.proofs.ByChains.{direct_list}
use Rattle.import_graph.proofs.graph.Graph.direct.Goals as goal

pub returns-clause-exact : goal.returns-clause-exact
returns-clause-exact c =
    subst (λ (ns : List ℕ). IsListOf (λ n. imports c.args.self.now c.args.module n ≡ true) ns) (sym (c.as_slice.ensures ∙ ap (λ (l : Links). l.direct) c.links.ensures.value)) (direct_list c.args.self.now c.links.ensures.whole c.args.module)
