use Rattle.std.proofs.Common.{◌≡◌}
use Rattle.symbols.specs.Classes.{base_slots}
use Rattle.symbols.specs.Lineages.{kind_of}
use Rattle.symbols.specs.Words.{among}
use Rattle.symbols.proofs.Descents.{rank}
use Rattle.symbols.proofs.class_list.FoundClasses.has_slot.Given as goal

abbrev pub invariant-loop-next : goal.invariant-loop-next
invariant-loop-next l = among l.name (base_slots (kind_of l.self l.next)) ≡ among l.name (base_slots (kind_of l.self l.initial.next))

abbrev pub decreases-loop-next : goal.decreases-loop-next
decreases-loop-next l = rank l.next
