use Rattle.symbols.specs.Lineages.{Climbs}
use Rattle.symbols.proofs.Descents.{rank}
use Rattle.symbols.proofs.class_list.FoundClasses.climb.Given as goal

abbrev pub invariant-loop-next : goal.invariant-loop-next
invariant-loop-next l = Climbs l.self l.initial.next l.all.items l.next

abbrev pub decreases-loop-next : goal.decreases-loop-next
decreases-loop-next l = rank l.next
