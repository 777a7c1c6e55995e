use Rattle.std.proofs.Common.{◌≡◌, drop}
use Rattle.std.specs.List.{list_any}
use Rattle.symbols.specs.Contexts.{context_of}
use Rattle.symbols.specs.SpecialNames.{module_special}
use Rattle.symbols.proofs.special_parts.any_module_faulty.Given as goal

abbrev pub invariant-loop-import : goal.invariant-loop-import
invariant-loop-import l = list_any (module_special (context_of l.context)) (drop l.import-index l.names) ≡ list_any (module_special (context_of l.context)) l.names
