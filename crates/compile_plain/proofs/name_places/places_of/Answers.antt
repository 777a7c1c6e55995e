use Rattle.std.proofs.Common.{◌∙◌, ap, sym}
use Rattle.std.specs.List.{position_from}
use Rattle.std.specs.Option.{option_or}
use Rattle.std.specs.Str.{bytes_eq}
use Rattle.compile_plain.proofs.Positions.{position_is}
use Rattle.compile_plain.proofs.name_places.places_of.Goals as goal

pub loop-name-init : goal.loop-name-init
loop-name-init c = λ name. ap (λ o. option_or o (position_from (bytes_eq name) 0 c.args.names.now)) (c.new-places.ensures name) ∙ sym (position_is (bytes_eq name) c.args.names.now)
