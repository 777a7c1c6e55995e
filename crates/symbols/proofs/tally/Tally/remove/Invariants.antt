use Rattle.std.proofs.Common.{◌≡◌, ◌-◌, drop}
use Rattle.py_tree.specs.Syntax.{Text as Name}
use Rattle.symbols.specs.Tallies.{count, times}
use Rattle.symbols.proofs.tally.Tally.remove.Given as goal

abbrev pub invariant-loop-name : goal.invariant-loop-name
invariant-loop-name l = (other : Name) → count l.self other - times other (drop l.name-index l.names) ≡ count l.initial.self other - times other l.names
