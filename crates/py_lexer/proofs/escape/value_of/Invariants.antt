use Rattle.std.proofs.Common.{◌≡◌, ◌<◌, ◌^◌, drop}
use Rattle.py_lexer.specs.Views.{value_in, value_in_from}
use Rattle.py_lexer.proofs.escape.value_of.Given as goal

abbrev pub invariant-loop-digit : goal.invariant-loop-digit
invariant-loop-digit l = record {
  same : value_in_from l.base l.value (drop l.digit-index l.digits) ≡ value_in l.base l.digits;
  small : l.value < 2 ^ 32;
}
