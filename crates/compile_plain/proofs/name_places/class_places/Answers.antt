use Rattle.std.proofs.Common.{◌∙◌, ap, sym}
use Rattle.std.specs.List.{flat_map, position_from}
use Rattle.std.specs.Option.{option_or}
use Rattle.std.specs.Str.{bytes_eq}
use Rattle.symbols.specs.Views.{seen}
use Rattle.compile_plain.specs.Tables.{class_names_at}
use Rattle.compile_plain.proofs.Positions.{position_is}
use Rattle.compile_plain.proofs.name_places.class_places.Goals as goal

pub loop-statement-init : goal.loop-statement-init
loop-statement-init c =
    let names = flat_map class_names_at (seen c.args.scope.now) in
    λ name. ap (λ o. option_or o (position_from (bytes_eq name) 0 names)) (c.new-places.ensures name) ∙ sym (position_is (bytes_eq name) names)
