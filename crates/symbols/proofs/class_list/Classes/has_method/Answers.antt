use Rattle.std.proofs.Common.{◌≡◌, ◌<◌, List, Some, length, subst, sym}
use Rattle.std.specs.Prelude.{slice_get}
use Rattle.std.specs.Option.{option_map}
use Rattle.symbols.specs.declared.class.Class.{Class}
use Rattle.symbols.specs.Words.{among}
use Rattle.symbols.proofs.Reading.{methods_are}
use Rattle.symbols.proofs.class_list.Classes.has_method.Goals as goal

pub returns : goal.returns
returns c =
    subst (λ (cs : List Class). option_map (λ (x : Class). among c.args.name.now x.kind.methods) (slice_get cs c.args.number) ≡ Some c.has_method.result) c.self.view_is
    (methods_are c.self.inside.found c.args.number c.args.name.now c.has_method.result (subst (λ (cs : List Class). c.args.number < length cs) (sym c.self.view_is) c.requires) c.has_method.ensures)
