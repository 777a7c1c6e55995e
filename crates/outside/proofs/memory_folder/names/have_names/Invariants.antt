use Rattle.std.proofs.Common.{◌↔◌, length}
use Rattle.outside.proofs.NameLists.{AreNamed}
use Rattle.outside.proofs.memory_folder.names.have_names.Given as goal

abbrev pub invariant-loop-first : goal.invariant-loop-first
invariant-loop-first g l = AreNamed g.R.Named.name l.rows ↔ AreNamed g.R.Named.name l.rest

abbrev pub decreases-loop-first : goal.decreases-loop-first
decreases-loop-first g l = length l.rest
