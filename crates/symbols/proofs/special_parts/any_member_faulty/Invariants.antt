use Rattle.std.proofs.Common.{◌≡◌, drop}
use Rattle.std.specs.List.{list_any}
use Rattle.symbols.specs.Contexts.{context_of}
use Rattle.symbols.specs.SpecialNames.{member_special}
use Rattle.symbols.proofs.special_parts.any_member_faulty.Given as goal

abbrev pub invariant-loop-import : goal.invariant-loop-import
invariant-loop-import l = list_any (member_special (context_of l.context)) (drop l.import-index l.names) ≡ list_any (member_special (context_of l.context)) l.names
