-- No definition of a right registry: publishing and refusing as one.
use Rattle.std.specs.Prelude.{Bool, true, false}
use Rattle.registry_core.specs.declared.slot.Slot.{Slot}
use Rattle.registry_core.specs.declared.slot.Slot.TheVariants.{Published, Refused}
use Rattle.registry_core.specs.declared.slot.EventKind.{EventKind}
use Rattle.registry_core.specs.declared.slot.EventKind.TheVariants.{Publish, Refuse}

abbrev pub decision : Bool → EventKind
decision true = Refuse
decision false = Publish

abbrev pub decided_slot : Bool → Slot
decided_slot true = Refused
decided_slot false = Published
