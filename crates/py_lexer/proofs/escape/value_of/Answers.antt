-- A value that is 2^32 or more stays so.
use Rattle.std.proofs.Common.{rules, sym, ◌∙◌}
use Rattle.py_lexer.proofs.Values.{mul_over, add_over}
use Rattle.py_lexer.proofs.escape.value_of.Goals as goal

pub returns-in_err-checked_mul : goal.returns-in_err-checked_mul
returns-in_err-checked_mul c =
    c.from_residual-in_err-checked_mul.ensures
    ∙ sym (mul_over c.args.base c.loop-digit.value c.loop-digit.digit-index c.digit-item.result c.args.digits.now c.requires.lower c.loop-digit-test.true c.in_err-checked_mul.ensures)
    ∙ c.loop-digit.invariant.same

pub returns-in_err-value : goal.returns-in_err-value
returns-in_err-value c =
    c.from_residual-in_err-value.ensures
    ∙ sym (add_over c.args.base c.loop-digit.value c.loop-digit.digit-index c.digit-item.result c.args.digits.now c.in_ok-checked_mul.field-0 c.in_ok-digit.digit c.requires.lower c.loop-digit-test.true c.digit-item.is c.in_ok-checked_mul.ensures.1 (search rules) c.in_err-value.ensures)
    ∙ c.loop-digit.invariant.same
