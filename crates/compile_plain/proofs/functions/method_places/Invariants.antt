use Rattle.std.proofs.Common.{◌≡◌, ℕ, drop, map, Some}
use Rattle.std.specs.Prelude.{slice_get}
use Rattle.std.specs.List.{position}
use Rattle.std.specs.List.{position_from}
use Rattle.std.specs.Option.{option_or}
use Rattle.py_tree.specs.Syntax.{Text}
use Rattle.py_meaning.specs.Definitions.{is_function}
use Rattle.compile_plain.specs.Tables.{found_at, function_in}
use Rattle.compile_plain.proofs.functions.method_places.Given as goal

abbrev pub invariant-loop-known : goal.invariant-loop-known
invariant-loop-known l = (n : ℕ) (name : Text) → option_or (found_at (slice_get l.tables.items n) name) (position_from (is_function (Some n) name) l.number (map function_in (drop l.known-index l.functions))) ≡ position (is_function (Some n) name) (map function_in l.functions)
