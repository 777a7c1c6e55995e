use Rattle.std.proofs.Common.{◌≡◌, ◌<◌, ◌∙◌, length, Some, arith, sym, ap}
use Rattle.std.specs.Prelude.{slice_get}
use Rattle.std.proofs.lemmas.Option.{slice_get-get_or}
use Rattle.compile_plain.specs.Scopes.{tree_of}
use Rattle.compile_plain.proofs.FunctionLocals.{has_locals, locals_at}
use Rattle.compile_plain.proofs.compile.compile_all.Goals as goal

pub at-requires : goal.at-requires
at-requires c =
    let within : c.loop-number.number < length c.args.functions.now = omega arith in
    has_locals (tree_of c.args.names.now) c.args.functions.now c.args.resolved.now.functions c.loop-number.number c.requires.functions c.requires.locals within

pub compile_known-requires : goal.compile_known-requires
compile_known-requires c =
    let within : c.loop-number.number < length c.args.functions.now = omega arith in
    let known : slice_get c.args.functions.now c.loop-number.number ≡ Some c.index-functions-number.result =
    slice_get-get_or c.args.functions.now c.loop-number.number c.index-functions-number.result within ∙ ap (λ f. Some f) (sym c.index-functions-number.is)
    in
    locals_at (tree_of c.args.names.now) c.args.functions.now c.args.resolved.now.functions c.loop-number.number c.index-functions-number.result c.at.result.now c.requires.functions c.requires.locals known c.at.ensures
