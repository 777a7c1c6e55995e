use Rattle.py_expr.proofs.SimpleLines.{augmented_there, no_augmentation}
use Rattle.py_expr.proofs.assigned.augmentation.Goals as goal

pub returns-in-Some : goal.returns-in-Some
returns-in-Some c = λ r a s e plain is. augmented_there s r c.args.value.now e c.args.op c.args.phrase.now c.in_ok-parts.field-0 c.in-Some.parts c.augmenting.result a c.in-Some.is c.in_ok-parts.ensures is c.augmenting.ensures

pub returns-in-None : goal.returns-in-None
returns-in-None c = λ r a s e plain is. no_augmentation s r c.args.value.now e c.args.op c.args.phrase.now c.in_ok-parts.field-0 c.in-None.is c.in_ok-parts.ensures plain a is
