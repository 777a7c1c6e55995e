use Rattle.std.proofs.Common.{◌≡◌, drop}
use Rattle.py_values.specs.Builtins as spec
use Rattle.py_values.proofs.builtin.named_among.Given as goal

abbrev pub invariant-loop-builtin : goal.invariant-loop-builtin
invariant-loop-builtin l = spec.named_among (drop l.builtin-index l.among) l.name ≡ spec.named_among l.among l.name
