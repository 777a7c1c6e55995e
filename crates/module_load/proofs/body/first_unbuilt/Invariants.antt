use Rattle.std.proofs.Common.{◌≡◌, drop, map}
use Rattle.std.specs.List.{find}
use Rattle.py_tree.specs.Joined.{statement_of}
use Rattle.module_load.specs.Bodies as rule
use Rattle.module_load.proofs.body.first_unbuilt.Given as goal

abbrev pub invariant-loop-statement : goal.invariant-loop-statement
invariant-loop-statement l = find rule.is_unbuilt (map statement_of (drop l.statement-index l.body)) ≡ find rule.is_unbuilt (map statement_of l.body)
