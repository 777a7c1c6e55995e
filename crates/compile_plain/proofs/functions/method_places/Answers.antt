use Rattle.std.proofs.Common.{◌∙◌, ℕ, List, map, Some, ap, sym}
use Rattle.std.specs.Prelude.{slice_get}
use Rattle.std.specs.List.{position_from}
use Rattle.std.specs.Option.{option_or}
use Rattle.symbols.specs.declared.name_map.NameMap.{NameMap}
use Rattle.py_meaning.specs.Definitions.{is_function}
use Rattle.compile_plain.specs.Tables.{found_at, function_in}
use Rattle.compile_plain.proofs.Positions.{position_is}
use Rattle.compile_plain.proofs.functions.method_places.Goals as goal

pub loop-known-init : goal.loop-known-init
loop-known-init c =
    let fs = map function_in c.args.functions.now in
    λ n name. ap (λ (ts : List (NameMap ℕ)). option_or (found_at (slice_get ts n) name) (position_from (is_function (Some n) name) 0 fs)) c.new-tables.ensures.items ∙ sym (position_is (is_function (Some n) name) fs)
