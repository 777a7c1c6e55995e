use Rattle.std.proofs.Common.{Some}
use Rattle.std.specs.Arc.{arc_value}
use Rattle.public_calls.proofs.registry.one_loader_decides_each_module_behind_its_need.Given as goal

abbrev pub ghosts-decide_both-N-Ledger : goal.ghosts-decide_both-N-Ledger
ghosts-decide_both-N-Ledger g a = record { name = a.blank.name; parts = a.blank.parts }

abbrev pub ghosts-decide_both-N-Naming : goal.ghosts-decide_both-N-Naming
ghosts-decide_both-N-Naming g a = record { loads = Some a.loads.now; sources = Some (arc_value a.all.now) }
