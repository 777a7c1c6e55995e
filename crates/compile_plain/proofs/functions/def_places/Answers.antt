use Rattle.std.proofs.Common.{◌∙◌, map, None, ap, sym}
use Rattle.std.specs.List.{position_from}
use Rattle.std.specs.Option.{option_or}
use Rattle.py_meaning.specs.Definitions.{is_function}
use Rattle.compile_plain.specs.Tables.{function_in}
use Rattle.compile_plain.proofs.Positions.{position_is}
use Rattle.compile_plain.proofs.functions.def_places.Goals as goal

pub loop-known-init : goal.loop-known-init
loop-known-init c =
    let fs = map function_in c.args.functions.now in
    λ name. ap (λ o. option_or o (position_from (is_function None name) 0 fs)) (c.new-places.ensures name) ∙ sym (position_is (is_function None name) fs)
