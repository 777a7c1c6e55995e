-- The static names that are found are those that the bindings say.
use Rattle.std.proofs.Common.{◌≡◌, false, [], IfOk, subst}
use Rattle.std.specs.List.{flat_map}
use Rattle.symbols.specs.SpecialNames.{Context, context_in, module_lines}
use Rattle.symbols.specs.Unders.{context_under}
use Rattle.symbols.specs.Views.{seen}
use Rattle.symbols.proofs.parts.special_names.Goals as goal

pub returns : goal.returns
returns c =
    let same : context_under c.in_ok-statics.statics ≡ context_in c.args.kind c.args.bindings.now = (λ i. record { in_class = false; in_method = false; statics = λ name. c.in_ok-statics.ensures name i; locals = [] }) in
    subst (λ (k : Context). IfOk c.special_under.result (λ lines. lines ≡ flat_map (module_lines k) (seen c.args.scope.now))) same c.special_under.ensures
