use Rattle.std.proofs.Common.{◌≡◌, ◌<◌, List, Some, length, subst, sym}
use Rattle.std.specs.Prelude.{slice_get}
use Rattle.std.specs.Option.{option_map}
use Rattle.symbols.specs.declared.class.Class.{Class}
use Rattle.symbols.specs.Words.{among}
use Rattle.symbols.proofs.Reading.{slots_are}
use Rattle.symbols.proofs.class_list.Classes.has_slot.Goals as goal

pub returns : goal.returns
returns c =
    subst (λ (cs : List Class). option_map (λ (x : Class). among c.args.name.now x.kind.slots) (slice_get cs c.args.number) ≡ Some c.has_slot.result) c.self.view_is
    (slots_are c.self.inside.found c.args.number c.args.name.now c.has_slot.result (subst (λ (cs : List Class). c.args.number < length cs) (sym c.self.view_is) c.requires) c.has_slot.ensures)
