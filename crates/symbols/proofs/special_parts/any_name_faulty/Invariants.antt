use Rattle.std.proofs.Common.{◌≡◌, drop}
use Rattle.std.specs.List.{list_any}
use Rattle.symbols.specs.Contexts.{context_of}
use Rattle.symbols.specs.SpecialNames.{forbidden_binding}
use Rattle.symbols.proofs.special_parts.any_name_faulty.Given as goal

abbrev pub invariant-loop-name : goal.invariant-loop-name
invariant-loop-name l = list_any (forbidden_binding (context_of l.context)) (drop l.name-index l.names) ≡ list_any (forbidden_binding (context_of l.context)) l.names
