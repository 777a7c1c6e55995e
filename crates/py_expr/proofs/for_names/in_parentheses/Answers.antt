use Rattle.std.proofs.Common.{◌∷◌, arith, ap, sym, ◌∙◌}
use Rattle.py_phrases.specs.Tokens as t
use Rattle.py_expr.proofs.OneForm.{behind}
use Rattle.py_expr.proofs.ForNames.{parentheses_found, no_parentheses}
use Rattle.py_expr.proofs.for_names.in_parentheses.Goals as goal

pub returns-then-len-lt2 : goal.returns-then-len-lt2
returns-then-len-lt2 c s read =
    no_parentheses s c.args.list.rest.now c.args.list.names c.args.list.comma read (λ r few h. absurd (omega (arith, few, c.if-len-lt2.true, c.len.ensures)))

pub returns-in_default : goal.returns-in_default
returns-in_default c s read =
    no_parentheses s c.args.list.rest.now c.args.list.names c.args.list.comma read (λ r few h. c.in_default.ensures (t.in_ ∷ r) h)

pub returns-in-Some-after_word : goal.returns-in-Some-after_word
returns-in-Some-after_word c s read =
    parentheses_found s c.args.list.rest.now c.in-Some.rest.now c.in-Some-after_word.rest.now c.args.list.names c.args.list.comma read (omega (arith, c.if-len-lt2.false, c.len.ensures))
    c.in-Some.ensures c.in-Some-after_word.ensures

pub returns : goal.returns
returns c s read =
    no_parentheses s c.args.list.rest.now c.args.list.names c.args.list.comma read (λ r few h. c.in-None.ensures r (ap behind (sym c.in-Some.ensures ∙ h)))
