-- The base, the slots and the methods are those that the definition says.
use Rattle.std.proofs.Common.{◌≡◌, ◌∙◌, ap, refl}
use Rattle.std.specs.List.{flat_map}
use Rattle.py_tree.specs.Joined.{maybe_of, statements_of}
use Rattle.py_tree.specs.Order.{of_scope}
use Rattle.py_tree.specs.Syntax as x
use Rattle.py_tree.specs.Syntax.{Statement}
use Rattle.std.proofs.Common.{List}
use Rattle.symbols.specs.Bindings.{first_mentions}
use Rattle.symbols.specs.Classes.{method_names, own_slots}
use Rattle.symbols.specs.Views.{seen}
use Rattle.symbols.proofs.ClassLists.{joined_is}
use Rattle.symbols.proofs.classes.class_with.Goals as goal

pub returns-clause-joined : goal.returns-clause-joined
returns-clause-joined c =
    let first : seen c.as_slice.result.now ≡ of_scope (statements_of c.args.body.now) = ap seen c.as_slice.ensures.value ∙ c.in_ok-scope.ensures in
    let second : seen c.as_slice-2.result.now ≡ of_scope (statements_of c.args.body.now) = ap seen c.as_slice-2.ensures.value ∙ c.in_ok-scope.ensures in
    joined_is c.args.earlier.now _ c.args.line (x.Classed c.args.name.now (maybe_of c.args.base.now) (statements_of c.args.body.now)) c.in_ok-name.ensures.equal refl c.base_of.ensures.is
    (c.in_ok-slots.ensures ∙ ap (λ (ss : List Statement). first_mentions (own_slots ss)) first) (c.in_ok-methods.ensures ∙ ap (λ (ss : List Statement). first_mentions (flat_map method_names ss)) second)
