use Rattle.std.proofs.lemmas.Result.{IfOk-weaker}
use Rattle.py_lexer.specs.declared.token.Keyword.TheVariants as word
use Rattle.py_expr.specs.Forms.{head_of}
use Rattle.py_expr.specs.Depth.{head_nesting}
use Rattle.py_expr.specs.LineEnds.{Anything}
use Rattle.py_expr.specs.Readings.{FoundAt}
use Rattle.py_expr.specs.Heads.{DefBehind, FoundBehind}
use Rattle.py_expr.proofs.Heads.{behind_def, no_def_name, no_def_paren}
use Rattle.py_expr.proofs.head_definitions.def_head.Goals as goal

pub returns-in_default : goal.returns-in_default
returns-in_default c = no_def_name c.args.tokens.now c.in_default.ensures

pub returns-in-Some-after_mark : goal.returns-in-Some-after_mark
returns-in-Some-after_mark c =
    IfOk-weaker c.def_of.result (FoundAt (DefBehind c.in-Some.name.now) Anything head_of head_nesting c.in-Some-after_mark.rest.now) (FoundBehind word.Def c.args.tokens.now)
    (λ found h. behind_def c.args.tokens.now c.in-Some.rest.now c.in-Some-after_mark.rest.now c.in-Some.name.now found c.in-Some.ensures c.in-Some-after_mark.ensures h) c.def_of.ensures

pub returns-in-None : goal.returns-in-None
returns-in-None c = no_def_paren c.args.tokens.now c.in-Some.rest.now c.in-Some.name.now c.in-Some.ensures c.in-None.ensures
