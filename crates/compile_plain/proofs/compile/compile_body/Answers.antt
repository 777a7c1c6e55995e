use Rattle.std.proofs.Common.{◌∙◌, ap}
use Rattle.py_tree.specs.Joined.{module_of, statements_of}
use Rattle.py_meaning.specs.Modules.{functions}
use Rattle.compile_plain.specs.Statements.{body_code}
use Rattle.compile_plain.specs.Tables.{blocks_of, codes_of, own_names}
use Rattle.compile_plain.proofs.Compiled.{compiled}
use Rattle.compile_plain.proofs.compile.compile_body.Goals as goal

pub returns-clause-stands : goal.returns-clause-stands
returns-clause-stands c = λ o resolved.
    let tree = module_of c.args.resolved.now.tree in
    let own = c.in_ok-compile_own.ensures ∙ (ap (λ t. body_code (own_names t) (statements_of c.as_slice-body.result.now)) c.in_ok-names.ensures ∙ ap (λ b. body_code (own_names tree) (statements_of b)) c.as_slice-body.ensures) in
    let all = c.in_ok-compile_all.ensures ∙ ap (λ t. codes_of t (functions t)) c.in_ok-names.ensures in
    compiled o tree c.in_ok-compile_own.field-0.cells (blocks_of c.in_ok-compile_all.field-0) own all
