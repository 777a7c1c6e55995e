use Rattle.std.proofs.Common.{sym, ◌∙◌}
use Rattle.py_expr.proofs.ParameterLists.{more_shallow, more_deep}
use Rattle.py_expr.proofs.parameters.pushed.Goals as goal

pub returns-in_ok-push-in-Shallow : goal.returns-in_ok-push-in-Shallow
returns-in_ok-push-in-Shallow c ps p h g =
    more_shallow ps p c.args.params c.args.param c.in-Shallow.params c.push.new.self c.in-Shallow.param h g (sym c.both.ensures ∙ c.in-Shallow.is) c.in_ok-push-in-Shallow.ensures.ok

pub returns-in-TooDeep : goal.returns-in-TooDeep
returns-in-TooDeep c ps p h g = more_deep ps p c.args.params c.args.param h g (sym c.both.ensures ∙ c.in-TooDeep.is)
