use Rattle.std.proofs.Common.{Some}
use Rattle.std.specs.Arc.{arc_value}
use Rattle.strict_top.proofs.alone.decide_alone.Given as goal

abbrev pub ghosts-decide_named-N-Ledger : goal.ghosts-decide_named-N-Ledger
ghosts-decide_named-N-Ledger g a = record { name = a.blank.name; parts = a.blank.parts }

abbrev pub ghosts-decide_named-N-Naming : goal.ghosts-decide_named-N-Naming
ghosts-decide_named-N-Naming g a = record { loads = Some a.loads.now; sources = Some (arc_value a.all.now) }
