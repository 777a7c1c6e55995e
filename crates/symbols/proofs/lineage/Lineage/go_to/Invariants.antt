use Rattle.std.proofs.Common.{◌≡◌, length}
use Rattle.symbols.specs.declared.class.BasePlace.TheVariants.{None as NoPlace}
use Rattle.symbols.specs.Lineages.{Climbs, IsLineage, last_or, places_of}
use Rattle.symbols.proofs.lineage.Lineage.go_to.Given as goal

abbrev pub invariant-loop-next : goal.invariant-loop-next
invariant-loop-next l = record {
  classes : l.self.classes ≡ l.fn.self.classes;
  args : l.self.args ≡ l.fn.self.args;
  lineage : IsLineage l.self;
  climbs : Climbs l.self.classes.now l.fn.place l.climbed.items (last_or NoPlace (places_of l.self.steps.items));
}

abbrev pub decreases-loop-next : goal.decreases-loop-next
decreases-loop-next l = length l.climbed.items
