use Rattle.py_expr.proofs.MadeOfTwo.{assigned, assigned_deep}
use Rattle.py_expr.proofs.made.assigning.Goals as goal

pub returns-in-Shallow : goal.returns-in-Shallow
returns-in-Shallow c = assigned c.args.parts c.in-Shallow.target c.in-Shallow.value c.in-Shallow.is

pub returns-in-TooDeep : goal.returns-in-TooDeep
returns-in-TooDeep c = assigned_deep c.args.parts c.in-TooDeep.is
