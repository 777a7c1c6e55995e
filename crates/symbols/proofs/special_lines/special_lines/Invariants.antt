use Rattle.std.proofs.Common.{◌≡◌, ◌++◌, drop}
use Rattle.std.specs.List.{flat_map}
use Rattle.symbols.specs.Contexts.{context_of}
use Rattle.symbols.specs.Views.{seen}
use Rattle.symbols.specs.SpecialNames.{module_lines}
use Rattle.symbols.proofs.special_lines.special_lines.Given as goal

abbrev pub invariant-loop-statement : goal.invariant-loop-statement
invariant-loop-statement l = l.lines ++ flat_map (module_lines (context_of l.context)) (seen (drop l.statement-index l.scope)) ≡ flat_map (module_lines (context_of l.context)) (seen l.scope)
