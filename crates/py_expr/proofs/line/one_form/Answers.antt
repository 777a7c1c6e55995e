use Rattle.py_expr.proofs.OneForm.{OneFront, one_line}
use Rattle.py_phrases.proofs.Builds.{one_front}
use Rattle.py_expr.proofs.line.one_form.Goals as goal

one : OneFront
one k s r q d e y h z h' = let x = one_front y h z h' in record { thing = x.tree; rest = x.rest }

pub returns : goal.returns
returns c = one_line one
