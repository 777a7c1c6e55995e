use Rattle.py_expr.proofs.SimpleLines.{module_there, no_module, no_names_taken}
use Rattle.py_expr.proofs.worded.module_and_names.Goals as goal

pub returns-in_default : goal.returns-in_default
returns-in_default c = no_module c.args.tokens.now c.in_default.ensures

pub returns-in-Some-2 : goal.returns-in-Some-2
returns-in-Some-2 c = module_there c.args.tokens.now c.in-Some.rest.now c.in-Some.module.now c.in_ok-name.name c.in-Some-2.names c.in_ok-names.field-0 c.in-Some.ensures c.in_ok-name.ensures.equal c.in-Some-2.is c.in_ok-names.ensures

pub returns-in-None : goal.returns-in-None
returns-in-None c = no_names_taken c.args.tokens.now c.in-Some.rest.now c.in-Some.module.now c.in_ok-names.field-0 c.in-Some.ensures c.in-None.is c.in_ok-names.ensures
