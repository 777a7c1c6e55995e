use Rattle.std.proofs.Common.{◌≡◌, drop}
use Rattle.std.specs.List.{flat_map, position_from}
use Rattle.std.specs.Option.{option_or}
use Rattle.std.specs.Str.{bytes_eq}
use Rattle.py_tree.specs.Syntax.{Text}
use Rattle.symbols.specs.Names.{found}
use Rattle.symbols.specs.Views.{seen}
use Rattle.compile_plain.specs.Names.{place_in}
use Rattle.compile_plain.specs.Tables.{class_names_at}
use Rattle.compile_plain.proofs.name_places.class_places.Given as goal

abbrev pub invariant-loop-statement : goal.invariant-loop-statement
invariant-loop-statement l = (name : Text) → option_or (found l.places name) (position_from (bytes_eq name) l.place (flat_map class_names_at (seen (drop l.statement-index l.scope)))) ≡ place_in (flat_map class_names_at (seen l.scope)) name
