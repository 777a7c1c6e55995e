use Rattle.std.proofs.Common.{Some}
use Rattle.std.specs.Arc.{arc_value}
use Rattle.public_calls.proofs.registry.a_withdrawal_stops_a_registry.Given as goal

abbrev pub ghosts-stop_one-N-Ledger : goal.ghosts-stop_one-N-Ledger
ghosts-stop_one-N-Ledger g a = record { name = a.blank.name; parts = a.blank.parts }

abbrev pub ghosts-stop_one-N-Naming : goal.ghosts-stop_one-N-Naming
ghosts-stop_one-N-Naming g a = record { loads = Some (record {}); sources = Some (arc_value a.all.now) }
