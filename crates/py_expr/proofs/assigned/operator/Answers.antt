use Rattle.std.proofs.Common.{sym, subst}
use Rattle.py_lexer.specs.declared.token.Token.TheVariants as token
use Rattle.py_tree.specs.declared.operator.BinaryOp.TheVariants as binary
use Rattle.py_expr.specs.Lines as l
use Rattle.py_expr.specs.Lines.{Augmented}
use Rattle.py_expr.proofs.assigned.operator.Goals as goal

pub returns-in-PlusEqual : goal.returns-in-PlusEqual
returns-in-PlusEqual c = subst (λ z. Augmented (token.Mark z) binary.Add) (sym c.in-PlusEqual.is) l.plus_equal

pub returns-in-MinusEqual : goal.returns-in-MinusEqual
returns-in-MinusEqual c = subst (λ z. Augmented (token.Mark z) binary.Sub) (sym c.in-MinusEqual.is) l.minus_equal

pub returns-in-StarEqual : goal.returns-in-StarEqual
returns-in-StarEqual c = subst (λ z. Augmented (token.Mark z) binary.Mul) (sym c.in-StarEqual.is) l.star_equal

pub returns-in-DoubleSlashEqual : goal.returns-in-DoubleSlashEqual
returns-in-DoubleSlashEqual c = subst (λ z. Augmented (token.Mark z) binary.FloorDiv) (sym c.in-DoubleSlashEqual.is) l.double_slash_equal

pub returns-in-PercentEqual : goal.returns-in-PercentEqual
returns-in-PercentEqual c = subst (λ z. Augmented (token.Mark z) binary.Mod) (sym c.in-PercentEqual.is) l.percent_equal
