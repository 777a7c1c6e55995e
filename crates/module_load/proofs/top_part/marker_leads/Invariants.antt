use Rattle.std.proofs.Common.{◌≡◌, drop}
use Rattle.py_tree.specs.Joined.{statements_of}
use Rattle.py_tree.specs.TopPart.{imports_at_front}
use Rattle.module_load.specs.Markers.{marker_leads}
use Rattle.module_load.proofs.top_part.marker_leads.Given as goal

abbrev pub invariant-loop-statement : goal.invariant-loop-statement
invariant-loop-statement l = marker_leads (imports_at_front (statements_of (drop l.statement-index l.body))) ≡ marker_leads (imports_at_front (statements_of l.body))
