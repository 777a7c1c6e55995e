-- Subscripts.
use Rattle.std.specs.Prelude.{length, slice_set}
use Rattle.py_values.specs.declared.exception.ExcKind.TheVariants as kind
use Rattle.key_map.specs.Entries.{find_entry, put_entry}
use Rattle.atom_ops.specs.Operators.{Index}
use Rattle.gradual_types.specs.Values as v
use Rattle.gradual_types.specs.Values.{Value}
use Rattle.py_meaning.specs.Acts.{Act, ◌>>=◌, ◌>>◌, give, done}
use Rattle.py_meaning.specs.Modules.{World}
use Rattle.py_meaning.specs.Looks as seen
use Rattle.py_meaning.specs.Looks.{Seen, look, type_error, or_raise, write, may_write}
use Rattle.py_meaning.specs.Operands.{operand, by_table, at_place, item_at, range_count, range_item}
use Rattle.py_meaning.specs.PaidKeys.{key_of}

-- ---- reading

abbrev pub item : World → Value → Seen → Seen → Act Value
item w i (seen.Tuple vs) at = at_place w (length vs) at (item_at w vs)
item w i (seen.Listed h n vs) at = at_place w (length vs) at (item_at w vs)
item w i (seen.Range start stop step) at = at_place w (range_count start stop step) at (λ n. give (v.Int (range_item start step n)))
item w i (seen.Mapped h n es) at = key_of w i >>= λ found. or_raise w kind.KeyError (find_entry found.0 es)
item w i a at = by_table w (Index (operand a) (operand at))

abbrev pub get_item : World → Value → Value → Act Value
get_item w x i = do
  a ← look w x
  at ← look w i
  item w i a at

-- ---- writing

abbrev pub test_item_write : World → Seen → Act (Unit {0})
test_item_write w (seen.Listed h n vs) = may_write w h
test_item_write w (seen.Mapped h n es) = may_write w h
test_item_write w other = done

abbrev pub write_item : World → Value → Value → Seen → Seen → Act (Unit {0})
write_item w i value (seen.Listed h n vs) at = at_place w (length vs) at (λ place. write w h n (v.Listed (slice_set vs place value)))
write_item w i value (seen.Mapped h n es) at = key_of w i >>= λ found. write w h n (v.Mapped (put_entry found.0 found.1 value es))
write_item w i value other at = type_error w

-- the test of the write stands before the look at the index
abbrev pub set_item : World → Value → Value → Value → Act (Unit {0})
set_item w x i value = do
  a ← look w x
  test_item_write w a
  at ← look w i
  write_item w i value a at
