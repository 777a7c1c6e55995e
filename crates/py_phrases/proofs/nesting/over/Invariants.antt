use Rattle.std.proofs.Common.{◌≡◌, ◌-◌, reverse}
use Rattle.py_phrases.specs.Emitted.{over}
use Rattle.py_phrases.proofs.nesting.over.Given as goal

abbrev pub invariant-loop : goal.invariant-loop
invariant-loop l = over (l.count - l.counter) l.deepest (reverse l.numbers.items) ≡ over l.count 0 (reverse l.fn.numbers.items)
