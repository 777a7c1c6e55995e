use Rattle.std.proofs.Common.{◌≡◌, false, length}
use Rattle.py_expr.specs.ImportRuns as spec
use Rattle.py_expr.proofs.imports.items_at.Given as goal

abbrev pub invariant-loop-items : goal.invariant-loop-items
invariant-loop-items l = spec.behind_items l.items (spec.items_at l.comma l.rest) ≡ spec.items_at false l.fn.tokens

abbrev pub decreases-loop-items : goal.decreases-loop-items
decreases-loop-items l = length l.rest
