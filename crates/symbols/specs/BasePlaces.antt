-- No definition of the language: the bases of a module's classes stand before them, or among the classes of other modules.
use Rattle.std.specs.Prelude.{◌≡◌, ◌+◌, ◌≤◌, ℕ, Bool, true, false, List, length, slice_get, Some}
use Rattle.symbols.specs.declared.class.BasePlace.{BasePlace}
use Rattle.symbols.specs.declared.class.BasePlace.TheVariants as place
use Rattle.symbols.specs.declared.class.ClassKind.{ClassKind}
use Rattle.symbols.specs.declared.class.OwnClass.{OwnClass}

-- one more than the number of the earlier class at a place
abbrev pub earlier_bound : BasePlace → ℕ
earlier_bound (place.Earlier number) = number + 1
earlier_bound p = 0

-- one more than the number of the imported class at a place
abbrev pub imported_bound : BasePlace → ℕ
imported_bound (place.Imported number) = number + 1
imported_bound p = 0

-- the base of the class with that number may stand there, with so many imported classes
abbrev pub IsPlaced : ℕ → ℕ → BasePlace → Type 0
IsPlaced others number p = (earlier_bound p ≤ number) × (imported_bound p ≤ others)

abbrev pub ArePlaced : List ClassKind → List OwnClass → Type 0
ArePlaced others own = (number : ℕ) (c : OwnClass) → slice_get own number ≡ Some c → IsPlaced (length others) number c.base

-- a base that is none is as no base
abbrev pub standing : BasePlace → BasePlace
standing place.Bad = place.None
standing p = p

abbrev pub is_class : BasePlace → Bool
is_class place.None = false
is_class p = true

abbrev pub is_bad_place : BasePlace → Bool
is_bad_place place.Bad = true
is_bad_place p = false
