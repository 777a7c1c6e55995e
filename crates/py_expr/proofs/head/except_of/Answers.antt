use Rattle.py_expr.proofs.Heads.{except_found, except_as_found, no_end_of_except}
use Rattle.py_expr.proofs.head.except_of.Goals as goal

pub returns-in-Some : goal.returns-in-Some
returns-in-Some c s f = except_found s c.args.matches.rest.now c.in-Some.rest.now c.args.matches.built c.catching.result f c.in-Some.ensures c.catching.ensures

pub returns-in-Some-after_bound_name : goal.returns-in-Some-after_bound_name
returns-in-Some-after_bound_name c s f =
    except_as_found s c.args.matches.rest.now c.in-Some-after_bound_name.rest.now c.in-Some-after_bound_name.name.now c.in_ok-name-in-Some-after_bound_name.name c.args.matches.built c.catching-in-Some-after_bound_name.result f
    c.in-Some-after_bound_name.ensures c.in_ok-name-in-Some-after_bound_name.ensures.equal c.catching-in-Some-after_bound_name.ensures

pub returns : goal.returns
returns c s f = no_end_of_except s c.args.matches.rest.now c.args.matches.built f c.in_default.ensures c.in-None.ensures
