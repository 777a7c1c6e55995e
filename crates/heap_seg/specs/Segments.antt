-- What a segment holds, and what stays as it was.
use Rattle.std.specs.Prelude.{◌≡◌, ℕ, List, [], ◌∷◌, ◌++◌, map, length, slice_get, slice_set, Some}
use Rattle.py_values.specs.declared.value.Home.{Home}
use Rattle.py_values.specs.declared.value.Ref.{Ref}
use Rattle.heap_seg.specs.declared.defaults.DefaultRow.{DefaultRow}
use Rattle.heap_seg.specs.declared.globals.Global.{Global}
use Rattle.heap_seg.specs.declared.object.Change.{Change}
use Rattle.heap_seg.specs.declared.segment.Segment.{Segment}
use Rattle.heap_seg.specs.Things.{Thing, Fits, thing_of, changed}
use Rattle.heap_seg.specs.Defaults.{rows_of}

abbrev pub home_of : Segment → Home
home_of s = s.home

-- what stands at its places, from 0
abbrev pub things : Segment → List Thing
things s = map thing_of s.objects.items

abbrev pub globals_in : Segment → List Global
globals_in s = s.globals

abbrev pub defaults_in : Segment → List DefaultRow
defaults_in s = rows_of s.defaults

-- all but the globals is as before
pub record ChangesGlobals (old new : Segment) : Type 0 where
  pub home : home_of new ≡ home_of old
  pub things : things new ≡ things old
  pub defaults : defaults_in new ≡ defaults_in old

-- all but the default values is as before
pub record ChangesDefaults (old new : Segment) : Type 0 where
  pub home : home_of new ≡ home_of old
  pub things : things new ≡ things old
  pub globals : globals_in new ≡ globals_in old

-- all but the things is as before
pub record ChangesThings (old new : Segment) : Type 0 where
  pub home : home_of new ≡ home_of old
  pub globals : globals_in new ≡ globals_in old
  pub defaults : defaults_in new ≡ defaults_in old

-- all is as before
pub record Same (old new : Segment) : Type 0 where
  pub things : things new ≡ things old
  pub others : ChangesThings old new

-- one thing more stands behind the others, at the place that was named
pub record IsMade (thing : Thing) (old new : Segment) (made : Ref) : Type 0 where
  pub place : made ≡ record { home = home_of old; place = length (things old) }
  pub things : things new ≡ things old ++ thing ∷ []
  pub others : ChangesThings old new

-- a thing stands at the place, and the change fits it
abbrev pub FitsAt : List Thing → ℕ → Change → Type 0
FitsAt ts place change = (t : Thing) × (slice_get ts place ≡ Some t) × Fits t change

-- the thing at the place is changed, and the others are as before
pub record IsChanged (place : ℕ) (change : Change) (old new : Segment) : Type 0 where
  pub thing : (t : Thing) → slice_get (things old) place ≡ Some t → things new ≡ slice_set (things old) place (changed t change)
  pub others : ChangesThings old new
