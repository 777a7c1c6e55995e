use Rattle.std.proofs.Common.{◌≡◌, ◌<◌, ◌∙◌, length, map, Some, arith, sym, ap}
use Rattle.std.specs.Prelude.{slice_get}
use Rattle.std.specs.Option.{option_map}
use Rattle.std.proofs.lemmas.List.{length-map}
use Rattle.std.proofs.lemmas.Option.{slice_get-get_or, slice_get-map}
use Rattle.std.proofs.lemmas.Result.{IfOk-weaker}
use Rattle.compile_plain.specs.Scopes.{tree_of}
use Rattle.compile_plain.specs.Tables.{code_in, function_in}
use Rattle.compile_plain.proofs.Compiled.{functions_are}
use Rattle.compile_plain.proofs.FunctionLocals.{has_locals, locals_at}
use Rattle.compile_plain.proofs.compile.compile_numbered.Goals as goal

pub at-requires : goal.at-requires
at-requires c =
    let within : c.args.number < length c.args.functions.now = omega (arith, c.requires.number, ap length c.requires.functions, length-map c.args.functions.now function_in) in
    has_locals (tree_of c.args.names.now) c.args.functions.now c.args.resolved.now.functions c.args.number c.requires.functions c.requires.locals within

pub compile_known-requires : goal.compile_known-requires
compile_known-requires c =
    let within : c.args.number < length c.args.functions.now = omega (arith, c.requires.number, ap length c.requires.functions, length-map c.args.functions.now function_in) in
    let known : slice_get c.args.functions.now c.args.number ≡ Some c.index-functions-number.result =
    slice_get-get_or c.args.functions.now c.args.number c.index-functions-number.result within ∙ ap (λ f. Some f) (sym c.index-functions-number.is)
    in
    locals_at (tree_of c.args.names.now) c.args.functions.now c.args.resolved.now.functions c.args.number c.index-functions-number.result c.at.result.now c.requires.functions c.requires.locals known c.at.ensures

pub returns : goal.returns
returns c =
    let tree = tree_of c.args.names.now in
    let fs = c.args.functions.now in
    let n = c.args.number in
    let within : c.args.number < length c.args.functions.now = omega (arith, c.requires.number, ap length c.requires.functions, length-map c.args.functions.now function_in) in
    let known : slice_get c.args.functions.now c.args.number ≡ Some c.index-functions-number.result =
    slice_get-get_or fs n c.index-functions-number.result within ∙ ap (λ f. Some f) (sym c.index-functions-number.is)
    in
    IfOk-weaker c.compile_known.result _ _
    (λ block made o.
    ap (λ codes. slice_get codes n) (functions_are o tree)
    ∙ (ap (λ gs. slice_get (map (code_in tree) gs) n) (sym c.requires.functions)
    ∙ (slice_get-map (code_in tree) (map function_in fs) n
    ∙ (ap (option_map (code_in tree)) (slice_get-map function_in fs n ∙ ap (option_map function_in) known) ∙ ap (λ cells. Some cells) (sym made)))))
    c.compile_known.ensures
