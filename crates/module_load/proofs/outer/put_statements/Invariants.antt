use Rattle.std.proofs.Common.{◌≡◌, ◌++◌, drop, map}
use Rattle.std.specs.List.{flat_map}
use Rattle.py_tree.specs.Joined.{statement_of}
use Rattle.module_load.specs.Outers as rule
use Rattle.module_load.proofs.outer.put_statements.Given as goal

abbrev pub invariant-loop-statement : goal.invariant-loop-statement
invariant-loop-statement g l = l.bindings ++ flat_map (rule.statement_bindings (g.K.Known.decisions l.known)) (map statement_of (drop l.statement-index l.imports)) ≡ l.initial.bindings ++ flat_map (rule.statement_bindings (g.K.Known.decisions l.known)) (map statement_of l.imports)
