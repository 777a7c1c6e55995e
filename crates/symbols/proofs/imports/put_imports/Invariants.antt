use Rattle.std.proofs.Common.{◌≡◌, ◌++◌, drop}
use Rattle.std.specs.List.{flat_map}
use Rattle.symbols.specs.Faults as spec
use Rattle.symbols.specs.Views.{seen}
use Rattle.symbols.proofs.imports.put_imports.Given as goal

abbrev pub invariant-loop-statement : goal.invariant-loop-statement
invariant-loop-statement l = l.lines ++ flat_map spec.import_line (seen (drop l.statement-index l.scope)) ≡ l.initial.lines ++ flat_map spec.import_line (seen l.scope)
