use Rattle.py_tree.specs.Joined.{expression_of, maybe_of}
use Rattle.py_tree.specs.Nesting.{nesting}
use Rattle.py_expr.specs.Depth.{maybe_nesting}
use Rattle.py_phrases.specs.Grammar.{E, Spells}
use Rattle.py_phrases.specs.Ends.{IsEnd}
use Rattle.py_expr.specs.Lines.{Value}
use Rattle.py_expr.proofs.FoundAt.{some_found, none_found}
use Rattle.py_expr.proofs.Wholes.{annotation_there, no_kind_there, no_value_behind, some_whole, none_whole}
use Rattle.py_expr.proofs.whole.annotation.Goals as goal

pub returns-in_default : goal.returns-in_default
returns-in_default c = no_kind_there c.args.tokens.now (none_found (Spells E) (IsEnd E) expression_of nesting c.args.tokens.now c.in_default.is c.in_ok-kind.ensures)

pub returns-in-Some-2 : goal.returns-in-Some-2
returns-in-Some-2 c =
    annotation_there c.args.tokens.now c.in-Some.kind.rest.now c.in-Some.kind.built c.in-Some-2.value c.both.result (some_found c.in-Some.is c.in_ok-kind.ensures) (some_whole c.in-Some-2.is c.in_ok-value.ensures) c.both.ensures

pub returns-in-None : goal.returns-in-None
returns-in-None c =
    no_value_behind c.args.tokens.now c.in-Some.kind.rest.now c.in-Some.kind.built (some_found c.in-Some.is c.in_ok-kind.ensures) (none_whole Value maybe_of maybe_nesting c.in-Some.kind.rest.now c.in-None.is c.in_ok-value.ensures)
