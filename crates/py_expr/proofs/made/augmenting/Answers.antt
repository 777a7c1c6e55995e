use Rattle.py_expr.proofs.MadeOfTwo.{augmented, augmented_deep}
use Rattle.py_expr.proofs.made.augmenting.Goals as goal

pub returns-in-Shallow : goal.returns-in-Shallow
returns-in-Shallow c = augmented c.args.op c.args.parts c.in-Shallow.target c.in-Shallow.value c.in-Shallow.is

pub returns-in-TooDeep : goal.returns-in-TooDeep
returns-in-TooDeep c = augmented_deep c.args.op c.args.parts c.in-TooDeep.is
