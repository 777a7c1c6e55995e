use Rattle.std.proofs.Common.{sym, ◌∙◌}
use Rattle.py_expr.proofs.FoundAt.{both_deep, both_shallow}
use Rattle.py_expr.proofs.parameters.built_parameter.Goals as goal

pub returns-in_ok-copy-in-Shallow : goal.returns-in_ok-copy-in-Shallow
returns-in_ok-copy-in-Shallow c k d h g =
    both_shallow c.args.name.now c.in_ok-copy-in-Shallow.field-0 k d c.args.kind c.args.default c.in-Shallow.kind c.in-Shallow.default h g (sym c.both.ensures ∙ c.in-Shallow.is) c.in_ok-copy-in-Shallow.ensures.equal

pub returns-in-TooDeep : goal.returns-in-TooDeep
returns-in-TooDeep c k d h g = both_deep c.args.name.now k d c.args.kind c.args.default h g (sym c.both.ensures ∙ c.in-TooDeep.is)
