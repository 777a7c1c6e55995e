-- A further digit.
use Rattle.std.proofs.Common.{◌≡◌, ◌+◌, ◌*◌, min, ap, ◌∙◌, arith}
use Rattle.std.specs.Char.{digit_value}
use Rattle.py_tree.specs.Literals.{greatest_int}
use Rattle.py_lexer.proofs.Values.{next_digit}
use Rattle.py_lexer.proofs.integer_literal.digits_value.Goals as goal

pub loop-digit-preserved : goal.loop-digit-preserved
loop-digit-preserved c =
    let item = c.digit-item.result in
    let is_digit = c.in_ok-to_digit.ensures.value in
    let value : c.min-value.result ≡ min (c.loop-digit.value * c.args.base + digit_value item) (greatest_int + 1) =
    c.min-value.ensures ∙ ap (λ base. min (c.loop-digit.value * base + c.from-digit.result) (greatest_int + 1)) c.from.ensures ∙ ap (λ digit. min (c.loop-digit.value * c.args.base + digit) (greatest_int + 1)) (c.from-digit.ensures ∙ is_digit.1) in
    record {
      same = next_digit c.args.base c.loop-digit.value c.loop-digit.digit-index item c.min-value.result c.args.digits.now c.loop-digit.after_underscore c.requires.lower c.loop-digit-test.true c.digit-item.is c.if-digit-eq95.false is_digit.0 value ∙ c.loop-digit.invariant.same;
      small = omega (arith, value);
    }
