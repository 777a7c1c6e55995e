-- Its lists are those of the classes above it and its own.
use Rattle.std.proofs.Common.{◌∙◌, ap, refl}
use Rattle.symbols.specs.declared.class.BasePlace.{BasePlace}
use Rattle.symbols.specs.Bindings.{first_mentions}
use Rattle.symbols.specs.Classes.{base_id}
use Rattle.symbols.specs.Lineages.{kind_of}
use Rattle.symbols.proofs.Reading.{class_is}
use Rattle.symbols.proofs.class_list.FoundClasses.class.Goals as goal

pub returns : goal.returns
returns c =
    class_is c.args.self.now c.args.number c.at-own.result.now _ c.at-own.ensures c.in_ok-name.ensures.equal refl (c.in_ok-base.ensures ∙ ap (λ (p : BasePlace). base_id (kind_of c.args.self.now p)) c.above.ensures) c.in_ok-id.ensures
    c.in_ok-slots.ensures c.in_ok-methods.ensures (c.in_ok-own_methods.ensures ∙ ap first_mentions c.as_slice-2.ensures)
