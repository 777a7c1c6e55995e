use Rattle.std.proofs.Common.{sym, ◌∙◌}
use Rattle.std.proofs.lemmas.Result.{err_from_is_err_and}
use Rattle.py_tree.specs.Joined.{module_of}
use Rattle.module_load.specs.Preparing.{unmarked}
use Rattle.module_load.proofs.Phases.{refused_size, refused_text, refused_marker, taken}
use Rattle.module_load.proofs.preparing.read.Goals as goal

pub returns-then-bytes-gt-GREATEST_SIZE-clause-so : goal.returns-then-bytes-gt-GREATEST_SIZE-clause-so
returns-then-bytes-gt-GREATEST_SIZE-clause-so c = refused_size c.args.bytes.now c.refused.result c.refused.ensures c.if-bytes-gt-GREATEST_SIZE.true

pub returns-in_default-clause-so : goal.returns-in_default-clause-so
returns-in_default-clause-so c = unmarked c.if-bytes-gt-GREATEST_SIZE.false c.in_default.ensures.first

pub returns-in_err-module-clause-so : goal.returns-in_err-module-clause-so
returns-in_err-module-clause-so c =
    let p = err_from_is_err_and c.from_residual.result c.from_residual.ensures.1 in
    rw (p.1, p.2) (refused_text c.args.bytes.now c.in-Some.line c.in_err-module.field-0.0 c.if-bytes-gt-GREATEST_SIZE.false c.in-Some.ensures.first c.in_err-module.ensures.so)

pub returns-then-not-is_marked-clause-so : goal.returns-then-not-is_marked-clause-so
returns-then-not-is_marked-clause-so c = refused_marker c.args.bytes.now c.in-Some.line (module_of c.in_ok-module.module) c.refused-then-not-is_marked.result c.refused-then-not-is_marked.ensures c.if-bytes-gt-GREATEST_SIZE.false c.in-Some.ensures.first c.in_ok-module.ensures.so (sym c.is_marked.ensures ∙ c.if-not-is_marked.true)

pub returns-clause-so : goal.returns-clause-so
returns-clause-so c = taken c.args.bytes.now c.in-Some.line (module_of c.in_ok-module.module) c.if-bytes-gt-GREATEST_SIZE.false c.in-Some.ensures.first c.in_ok-module.ensures.so (sym c.is_marked.ensures ∙ c.if-not-is_marked.false)
