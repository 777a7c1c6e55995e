use Rattle.std.proofs.Common.{Some}
use Rattle.std.specs.Arc.{arc_value}
use Rattle.loader_calls.proofs.shared.a_shared_registry_comes_back_with_what_happened.Given as goal

abbrev pub ghosts-share_and_close-N-Ledger : goal.ghosts-share_and_close-N-Ledger
ghosts-share_and_close-N-Ledger g a = record { name = a.blank.name; parts = a.blank.parts }

abbrev pub ghosts-share_and_close-N-Naming : goal.ghosts-share_and_close-N-Naming
ghosts-share_and_close-N-Naming g a = record { loads = Some a.loads.now; sources = Some (arc_value a.all.now) }
