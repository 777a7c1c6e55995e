use Rattle.std.proofs.Common.{◌≡◌, drop}
use Rattle.std.specs.List.{position_from}
use Rattle.std.specs.Option.{option_or}
use Rattle.std.specs.Str.{bytes_eq}
use Rattle.py_tree.specs.Syntax.{Text}
use Rattle.symbols.specs.Names.{found}
use Rattle.compile_plain.specs.Names.{place_in}
use Rattle.compile_plain.proofs.name_places.places_of.Given as goal

abbrev pub invariant-loop-name : goal.invariant-loop-name
invariant-loop-name l = (name : Text) → option_or (found l.places name) (position_from (bytes_eq name) l.place (drop l.name-index l.names)) ≡ place_in l.names name
