use Rattle.std.proofs.Common.{◌≡◌, drop}
use Rattle.std.specs.List.{filter}
use Rattle.symbols.specs.Bindings.{first_mentions, is_global, names_of}
use Rattle.symbols.specs.Names.{with_names}
use Rattle.symbols.proofs.bound_names.globals_of.Given as goal

abbrev pub invariant-loop-binding : goal.invariant-loop-binding
invariant-loop-binding l = with_names l.names (names_of (filter is_global (drop l.binding-index l.bindings))) ≡ first_mentions (names_of (filter is_global l.bindings))
