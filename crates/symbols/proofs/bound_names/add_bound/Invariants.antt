use Rattle.std.proofs.Common.{◌≡◌, drop}
use Rattle.symbols.specs.Bindings.{names_of}
use Rattle.symbols.specs.Names.{with_names}
use Rattle.symbols.proofs.bound_names.add_bound.Given as goal

abbrev pub invariant-loop-binding : goal.invariant-loop-binding
invariant-loop-binding l = with_names l.names (names_of (drop l.binding-index l.bindings)) ≡ with_names l.initial.names (names_of l.bindings)
