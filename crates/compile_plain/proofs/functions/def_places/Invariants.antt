use Rattle.std.proofs.Common.{◌≡◌, drop, map, None}
use Rattle.std.specs.List.{position}
use Rattle.std.specs.List.{position_from}
use Rattle.std.specs.Option.{option_or}
use Rattle.py_tree.specs.Syntax.{Text}
use Rattle.symbols.specs.Names.{found}
use Rattle.py_meaning.specs.Definitions.{is_function}
use Rattle.compile_plain.specs.Tables.{function_in}
use Rattle.compile_plain.proofs.functions.def_places.Given as goal

abbrev pub invariant-loop-known : goal.invariant-loop-known
invariant-loop-known l = (name : Text) → option_or (found l.places name) (position_from (is_function None name) l.number (map function_in (drop l.known-index l.functions))) ≡ position (is_function None name) (map function_in l.functions)
