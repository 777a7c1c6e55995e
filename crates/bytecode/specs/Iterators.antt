-- Loops over items that are under way, and the next item of each.
use Rattle.std.specs.Prelude.{ℕ, ℤ, suc, List, [], ◌∷◌, length, Option, Some, None}
use Rattle.py_values.specs.declared.value.Home.{Home}
use Rattle.gradual_types.specs.Values as v
use Rattle.gradual_types.specs.Values.{Value}
use Rattle.py_meaning.specs.Acts.{Act, ◌>>=◌, give}
use Rattle.py_meaning.specs.Modules.{World}
use Rattle.py_meaning.specs.Looks as seen
use Rattle.py_meaning.specs.Looks.{Seen, see_object, type_error}
use Rattle.py_meaning.specs.Operands.{range_count, range_item}
use Rattle.py_meaning.specs.Iterables.{characters, shown_keys, number_at, listed_at, unless_resized}

pub data Iterator : Type 0 where
  Each : List Value → Iterator  -- over what is left of a tuple or a text
  InList : Home → ℕ → ℕ → Iterator  -- over a list, from that place on
  InRange : ℤ → ℤ → ℤ → ℕ → Iterator  -- over a range, by its start, stop and step, from that place on
  InDict : Home → ℕ → ℕ → List Value → Iterator  -- over a dictionary of that size, with the keys that are left

abbrev pub iterated : World → Seen → Act Iterator
iterated w (seen.Tuple vs) = give (Each vs)
iterated w (seen.Points text) = give (Each (characters text))
iterated w (seen.Listed h n vs) = give (InList h n 0)
iterated w (seen.Range start stop step) = give (InRange start stop step 0)
iterated w (seen.Mapped h n es) = give (InDict h n (length es) (shown_keys es))
iterated w other = type_error w

-- an item, and what is left behind it
abbrev pub Item : Type 0
Item = Option (Value × Iterator)

abbrev pub item_then : Iterator → Option Value → Item
item_then left None = None
item_then left (Some x) = Some (x, left)

abbrev pub number_in : ℤ → ℤ → ℤ → ℕ → Option Value
number_in start stop step i = number_at (range_count start stop step) (λ i. v.Int (range_item start step i)) i

-- none where it has come to its end
abbrev pub next_item : World → Iterator → Act Item
next_item w (Each []) = give None
next_item w (Each (x ∷ xs)) = give (Some (x, Each xs))
next_item w (InList h n i) = see_object w h n >>= λ a. give (item_then (InList h n (suc i)) (listed_at i a))
next_item w (InRange start stop step i) = give (item_then (InRange start stop step (suc i)) (number_in start stop step i))
next_item w (InDict h n size []) = see_object w h n >>= unless_resized w size (give None)
next_item w (InDict h n size (key ∷ keys)) = see_object w h n >>= unless_resized w size (give (Some (key, InDict h n size keys)))
