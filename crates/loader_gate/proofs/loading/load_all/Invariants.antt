use Rattle.std.proofs.Common.{Some}
use Rattle.std.specs.Arc.{arc_value}
use Rattle.loader_gate.proofs.loading.load_all.Given as goal

abbrev pub ghosts-load_named-N-Ledger : goal.ghosts-load_named-N-Ledger
ghosts-load_named-N-Ledger g a = record { name = a.blank.name; parts = a.blank.parts }

-- the way to load and the sources that were passed
abbrev pub ghosts-load_named-N-Naming : goal.ghosts-load_named-N-Naming
ghosts-load_named-N-Naming g a = record { loads = Some a.loads.now; sources = Some (arc_value a.all.now) }
