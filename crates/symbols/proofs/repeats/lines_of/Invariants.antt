use Rattle.std.proofs.Common.{◌≡◌, ◌++◌, drop}
use Rattle.std.specs.List.{flat_map}
use Rattle.symbols.specs.Names.{found}
use Rattle.symbols.specs.Repeats.{seconds}
use Rattle.symbols.proofs.repeats.lines_of.Given as goal

abbrev pub invariant-loop-name : goal.invariant-loop-name
invariant-loop-name l = l.lines ++ flat_map (λ name. seconds l.wanted.0 (found l.repeats name.now)) (drop l.name-index l.names) ≡ flat_map (λ name. seconds l.wanted.0 (found l.repeats name.now)) l.names
