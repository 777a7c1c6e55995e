use Rattle.std.proofs.Common.{◌≡◌, drop}
use Rattle.symbols.specs.Bindings.{first_mentions, names_of}
use Rattle.symbols.specs.Names.{with_names}
use Rattle.symbols.proofs.repeats.names_in.Given as goal

abbrev pub invariant-loop-binding : goal.invariant-loop-binding
invariant-loop-binding l = with_names l.names (names_of (drop l.binding-index l.bindings)) ≡ first_mentions (names_of l.bindings)
