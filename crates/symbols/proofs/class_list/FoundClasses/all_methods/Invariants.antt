use Rattle.std.proofs.Common.{◌≡◌, length}
use Rattle.symbols.specs.Bindings.{first_mentions}
use Rattle.symbols.specs.Classes.{base_methods}
use Rattle.symbols.specs.Lineages.{Climbs, kind_of}
use Rattle.symbols.proofs.Reading.{top_of}
use Rattle.symbols.proofs.class_list.FoundClasses.all_methods.Given as goal

abbrev pub invariant-loop-next : goal.invariant-loop-next
invariant-loop-next l = record {
  climbs : Climbs l.self l.fn.place l.climbed.items (top_of l.self l.fn.place l.climbed.items);
  names : l.names ≡ first_mentions (base_methods (kind_of l.self (top_of l.self l.fn.place l.climbed.items)));
}

abbrev pub decreases-loop-next : goal.decreases-loop-next
decreases-loop-next l = length l.climbed.items
