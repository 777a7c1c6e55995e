use Rattle.std.proofs.Common.{◌≡◌, ◌≤◌, ◌+◌, false, drop}
use Rattle.std.specs.Option.{option_map}
use Rattle.py_tree.specs.Literals.{greatest_int}
use Rattle.py_lexer.specs.Reading.{capped, digits_in}
use Rattle.py_lexer.proofs.integer_literal.digits_value.Given as goal

abbrev pub invariant-loop-digit : goal.invariant-loop-digit
invariant-loop-digit l = record {
  same : option_map capped (digits_in l.base l.value l.after_underscore (drop l.digit-index l.digits)) ≡ option_map capped (digits_in l.base l.fn.first false l.digits);
  small : l.value ≤ greatest_int + 1;
}
