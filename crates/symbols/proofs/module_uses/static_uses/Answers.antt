-- The static names that are found are those that the bindings say.
use Rattle.std.proofs.Common.{◌≡◌, false, [], IfOk, subst}
use Rattle.py_tree.specs.Joined.{statements_of}
use Rattle.symbols.specs.SpecialNames.{Context, context_in}
use Rattle.symbols.specs.StaticUses.{block_uses}
use Rattle.symbols.specs.Unders.{context_under}
use Rattle.symbols.proofs.module_uses.static_uses.Goals as goal

pub returns : goal.returns
returns c =
    let same : context_under c.in_ok-statics.statics ≡ context_in c.args.kind c.args.bindings.now = (λ i. record { in_class = false; in_method = false; statics = λ name. c.in_ok-statics.ensures name i; locals = [] }) in
    subst (λ (k : Context). IfOk c.uses_under.result (λ all. all ≡ block_uses k (statements_of c.args.body.now))) same c.uses_under.ensures
