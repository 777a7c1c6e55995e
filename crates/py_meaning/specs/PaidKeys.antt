-- Keys of dictionaries. A walk over the key pays for each part as it comes to it and looks at every part; the first fault that it meets is
-- raised at its end.
use Rattle.std.specs.Prelude.{ℕ, zero, suc, pos, Bool, true, false, List, [], ◌∷◌, length, Option, Some, None}
use Rattle.py_values.specs.declared.exception.ExcKind.{ExcKind}
use Rattle.py_values.specs.declared.exception.ExcKind.TheVariants as kind
use Rattle.key_map.specs.Keys as key
use Rattle.key_map.specs.Keys.{Key}
use Rattle.gradual_types.specs.Values as v
use Rattle.gradual_types.specs.Values.{Value}
use Rattle.py_meaning.specs.Acts.{Act, ◌>>=◌, ◌>>◌, give, pay}
use Rattle.py_meaning.specs.Modules.{World}
use Rattle.py_meaning.specs.Looks as seen
use Rattle.py_meaning.specs.Looks.{Seen, look, raise}

-- a key and the value that shows it, or the exception that tells why there is none
pub data Part : Type 0 where
  IsKey : Key → Value → Part
  IsNone : ExcKind → Part

pub data Parts : Type 0 where
  AreKeys : List Key → List Value → Parts
  AreNone : ExcKind → Parts

abbrev pub more_parts : Part → Parts → Parts
more_parts (IsKey k x) (AreKeys ks xs) = AreKeys (k ∷ ks) (x ∷ xs)
more_parts (IsKey k x) (AreNone why) = AreNone why
more_parts (IsNone why) parts = AreNone why

abbrev pub tuple_part : Parts → Part
tuple_part (AreKeys ks xs) = IsKey (key.Tuple (key.keys ks)) (v.Tuple (v.values xs))
tuple_part (AreNone why) = IsNone why

abbrev pub all_parts : (Value → Act Part) → List Value → Act Parts
all_parts part [] = give (AreKeys [] [])
all_parts part (x ∷ xs) = do
  first ← part x
  rest ← all_parts part xs
  give (more_parts first rest)

-- a tuple by what is done with its items, where a level is left for them
abbrev pub of_tuple : Option (Value → Act Part) → List Value → Act Part
of_tuple None xs = give (IsNone kind.RecursionError)
of_tuple (Some part) xs = do
  pay (length xs)
  parts ← all_parts part xs
  give (tuple_part parts)

abbrev pub as_number : Bool → ℕ
as_number true = 1
as_number false = 0

-- a bool is the key that its number is
abbrev pub of_seen : Option (Value → Act Part) → Seen → Act Part
of_seen part seen.Nil = give (IsKey key.Nil v.Nil)
of_seen part (seen.Truth b) = give (IsKey (key.Int (pos (as_number b))) (v.Truth b))
of_seen part (seen.Int n) = give (IsKey (key.Int n) (v.Int n))
of_seen part (seen.Points text) = pay (length text) >> give (IsKey (key.Text text) (v.Points text))
of_seen part (seen.Tuple xs) = of_tuple part xs
of_seen part other = give (IsNone kind.TypeError)

-- with so many levels of tuples
abbrev pub part_of : World → ℕ → Value → Act Part
part_of w zero x = look w x >>= of_seen None
part_of w (suc levels) x = look w x >>= of_seen (Some (part_of w levels))

-- a key and the value that shows it
abbrev pub PaidKey : Type 0
PaidKey = Key × Value

abbrev pub or_fault : World → Part → Act PaidKey
or_fault w (IsKey k x) = give (k, x)
or_fault w (IsNone why) = raise w why

abbrev pub key_of : World → Value → Act PaidKey
key_of w x = part_of w 100 x >>= or_fault w
