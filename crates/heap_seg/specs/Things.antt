-- What stands at a place, as plain data, and how it changes.
use Rattle.std.specs.Prelude.{◌<◌, ℕ, ℤ, List, [], ◌∷◌, ◌++◌, Option, Some, length, slice_set}
use Rattle.py_values.specs.declared.value.Value.{Value}
use Rattle.py_values.specs.declared.class_id.ClassId.{ClassId}
use Rattle.key_map.specs.Keys.{key_of}
use Rattle.key_map.specs.Entries.{Entry, entries, put_entry}
use Rattle.heap_seg.specs.declared.object.Object.{Object}
use Rattle.heap_seg.specs.declared.object.Object.TheVariants as object
use Rattle.heap_seg.specs.declared.object.Change.{Change}
use Rattle.heap_seg.specs.declared.object.Change.TheVariants as change

pub data Thing : Type 0 where
  Listed : List Value → Thing
  Tupled : List Value → Thing
  Texted : List ℕ → Thing
  Mapped : List (Entry Value Value) → Thing
  Ranged : ℤ → ℤ → ℤ → Thing
  Bound : Value → Value → Thing
  Instance : ClassId → List (Option Value) → Thing

abbrev pub thing_of : Object → Thing
thing_of (object.List items) = Listed items
thing_of (object.Tuple items) = Tupled items
thing_of (object.Text text) = Texted text
thing_of (object.Dict map) = Mapped (entries map)
thing_of (object.Range start stop step) = Ranged start stop step
thing_of (object.Bound receiver method) = Bound receiver method
thing_of (object.Instance class slots) = Instance class slots

-- the change fits the thing: an item or a slot that it sets is there
abbrev pub Fits : Thing → Change → Type 0
Fits (Listed items) (change.Push value) = Unit {0}
Fits (Listed items) (change.SetItem place value) = place < length items
Fits (Mapped es) (change.Put key shown value) = Unit {0}
Fits (Instance class slots) (change.SetSlot number value) = number < length slots
Fits thing change = ⊥

abbrev pub changed : Thing → Change → Thing
changed (Listed items) (change.Push value) = Listed (items ++ value ∷ [])
changed (Listed items) (change.SetItem place value) = Listed (slice_set items place value)
changed (Mapped es) (change.Put key shown value) = Mapped (put_entry (key_of key) shown value es)
changed (Instance class slots) (change.SetSlot number value) = Instance class (slice_set slots number (Some value))
changed thing change = thing
