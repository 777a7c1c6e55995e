use Rattle.py_tree.specs.Joined.{maybe_of}
use Rattle.py_expr.specs.Depth.{maybe_nesting, params_nesting}
use Rattle.py_expr.specs.Forms.{params_of}
use Rattle.py_expr.specs.LineEnds.{Anything}
use Rattle.py_expr.specs.Lines as l
use Rattle.py_expr.specs.Signatures.{Signature}
use Rattle.py_expr.proofs.FoundAt.{some_found, none_found}
use Rattle.py_expr.proofs.Heads.{def_found, no_params, no_result_behind}
use Rattle.py_expr.proofs.head_definitions.def_of.Goals as goal

pub returns-in_default : goal.returns-in_default
returns-in_default c = no_params c.args.name.now c.args.tokens.now (none_found Signature Anything params_of params_nesting c.args.tokens.now c.in_default.is c.in_ok-params.ensures)

pub returns-in-Some-2 : goal.returns-in-Some-2
returns-in-Some-2 c =
    def_found c.args.tokens.now c.in-Some.params.rest.now c.in-Some-2.kind.rest.now c.args.name.now c.in-Some.params.built c.in-Some-2.kind.built c.in_ok-defining-in-Some-2.field-0 (some_found c.in-Some.is c.in_ok-params.ensures)
    (some_found c.in-Some-2.is c.in_ok-kind.ensures) c.in_ok-defining-in-Some-2.ensures

pub returns : goal.returns
returns c =
    no_result_behind c.args.name.now c.args.tokens.now c.in-Some.params.rest.now c.in-Some.params.built (some_found c.in-Some.is c.in_ok-params.ensures)
    (none_found l.Result Anything maybe_of maybe_nesting c.in-Some.params.rest.now c.in-None.is c.in_ok-kind.ensures)
