use Rattle.py_expr.proofs.Fitting.{form_fits_there}
use Rattle.py_expr.proofs.line.forms_fit.Goals as goal

pub returns : goal.returns
returns c = λ tokens f line h. form_fits_there line h
