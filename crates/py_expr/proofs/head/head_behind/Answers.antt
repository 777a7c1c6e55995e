use Rattle.std.proofs.Common.{sym, subst, IfOk}
use Rattle.py_expr.specs.Heads.{FoundBehind}
use Rattle.py_expr.proofs.Heads.{IsOther, else_at, try_at, other_word}
use Rattle.py_expr.proofs.head.head_behind.Goals as goal

pub returns-in-If : goal.returns-in-If
returns-in-If c = subst (λ w. IfOk c.test_head.result (FoundBehind w c.args.tokens.now)) (sym c.in-If.is) c.test_head.ensures

pub returns-in-Elif : goal.returns-in-Elif
returns-in-Elif c = subst (λ w. IfOk c.test_head-in-Elif.result (FoundBehind w c.args.tokens.now)) (sym c.in-Elif.is) c.test_head-in-Elif.ensures

pub returns-in-While : goal.returns-in-While
returns-in-While c = subst (λ w. IfOk c.test_head-in-While.result (FoundBehind w c.args.tokens.now)) (sym c.in-While.is) c.test_head-in-While.ensures

pub returns-in-For : goal.returns-in-For
returns-in-For c = subst (λ w. IfOk c.for_head.result (FoundBehind w c.args.tokens.now)) (sym c.in-For.is) c.for_head.ensures

pub returns-in-Except : goal.returns-in-Except
returns-in-Except c = subst (λ w. IfOk c.except_head.result (FoundBehind w c.args.tokens.now)) (sym c.in-Except.is) c.except_head.ensures

pub returns-in-Def : goal.returns-in-Def
returns-in-Def c = subst (λ w. IfOk c.def_head.result (FoundBehind w c.args.tokens.now)) (sym c.in-Def.is) c.def_head.ensures

pub returns-in-Class : goal.returns-in-Class
returns-in-Class c = subst (λ w. IfOk c.class_head.result (FoundBehind w c.args.tokens.now)) (sym c.in-Class.is) c.class_head.ensures

pub returns-in-Else : goal.returns-in-Else
returns-in-Else c = subst (λ w. FoundBehind w c.args.tokens.now c.bare_head.result) (sym c.in-Else.is) (else_at c.args.tokens.now c.bare_head.result c.bare_head.ensures)

pub returns-in-Try : goal.returns-in-Try
returns-in-Try c = subst (λ w. FoundBehind w c.args.tokens.now c.bare_head-in-Try.result) (sym c.in-Try.is) (try_at c.args.tokens.now c.bare_head-in-Try.result c.bare_head-in-Try.ensures)

pub returns-in_default : goal.returns-in_default
returns-in_default c =
    let c' = c.in_default in
    let other : IsOther c.args.word
    = record { no_if = c'.not-If; no_elif = c'.not-Elif; no_else = c'.not-Else; no_while = c'.not-While; no_for = c'.not-For; no_try = c'.not-Try; no_except = c'.not-Except; no_def = c'.not-Def; no_class = c'.not-Class } in
    other_word c.args.word c.args.tokens.now other
