-- No definition of the language: a class with the classes above it, from the one that has no base on.
use Rattle.std.specs.Prelude.{◌≡◌, Bool, false, List, [], ◌∷◌, codes, map, slice_get, Option, Some, None}
use Rattle.std.specs.List.{flat_map}
use Rattle.py_tree.specs.Syntax.{Text}
use Rattle.symbols.specs.declared.class.BasePlace.{BasePlace}
use Rattle.symbols.specs.declared.class.BasePlace.TheVariants as place
use Rattle.symbols.specs.declared.class.ClassKind.{ClassKind}
use Rattle.symbols.specs.declared.class.OwnClass.{OwnClass}
use Rattle.symbols.specs.declared.class_list.FoundClasses.{FoundClasses}
use Rattle.symbols.specs.declared.lineage.Step.{Step}
use Rattle.symbols.specs.declared.lineage.Lineage.{Lineage}
use Rattle.symbols.specs.BasePlaces.{standing}
use Rattle.symbols.specs.BaseKinds as base
use Rattle.symbols.specs.BaseKinds.{Base}
use Rattle.symbols.specs.ClassViews.{base_at, founds}
use Rattle.symbols.specs.Faults.{clash}
use Rattle.symbols.specs.Tallies.{count, times}

abbrev pub base_of_own : Option OwnClass → BasePlace
base_of_own None = place.None
base_of_own (Some c) = standing c.base

-- where the base of the class at a place stands
abbrev pub above : FoundClasses → BasePlace → BasePlace
above all (place.Earlier number) = base_of_own (slice_get all.own number)
above all p = place.None

abbrev pub slots_of_own : Option OwnClass → List Text
slots_of_own None = []
slots_of_own (Some c) = c.slots

abbrev pub slots_of_kind : Option ClassKind → List Text
slots_of_kind None = []
slots_of_kind (Some c) = c.slots

-- the slots that the class at a place adds to those of its base
abbrev pub slots_at : FoundClasses → BasePlace → List Text
slots_at all (place.Earlier number) = slots_of_own (slice_get all.own number)
slots_at all (place.Imported number) = slots_of_kind (slice_get all.others number)
slots_at all (place.Exception kind) = codes "args" ∷ []
slots_at all p = []

abbrev pub methods_of_own : Option OwnClass → List Text
methods_of_own None = []
methods_of_own (Some c) = c.methods

abbrev pub methods_of_kind : Option ClassKind → List Text
methods_of_kind None = []
methods_of_kind (Some c) = c.methods

abbrev pub methods_at : FoundClasses → BasePlace → List Text
methods_at all (place.Earlier number) = methods_of_own (slice_get all.own number)
methods_at all (place.Imported number) = methods_of_kind (slice_get all.others number)
methods_at all p = []

-- the class at a place, with its bases
abbrev pub kind_of : FoundClasses → BasePlace → Base
kind_of all p = base_at all.others (founds all) p

abbrev pub clash_of : Base → Bool
clash_of (base.Class kind) = clash kind
clash_of b = false

abbrev pub clash_at : FoundClasses → BasePlace → Bool
clash_at all p = clash_of (kind_of all p)

abbrev pub places_of : List Step → List BasePlace
places_of steps = map (λ s. s.place) steps

-- whether the last class clashes
abbrev pub last_clashes : List Step → Bool
last_clashes [] = false
last_clashes (s ∷ []) = s.clashes
last_clashes (s ∷ t ∷ rest) = last_clashes (t ∷ rest)

-- the last of some places, or another one
abbrev pub last_or : BasePlace → List BasePlace → BasePlace
last_or p [] = p
last_or p (q ∷ rest) = last_or q rest

-- each is the base of the next
abbrev pub Descends : FoundClasses → BasePlace → List BasePlace → Type 0
Descends all p [] = Unit {0}
Descends all p (q ∷ rest) = (above all q ≡ p) × Descends all q rest

-- each is the base of the one before, from the first up to just below the last
abbrev pub Climbs : FoundClasses → BasePlace → List BasePlace → BasePlace → Type 0
Climbs all p [] top = p ≡ top
Climbs all p (q ∷ rest) top = (q ≡ p) × Climbs all (above all q) rest top

-- each knows whether it clashes
abbrev pub Knows : FoundClasses → List Step → Type 0
Knows all [] = Unit {0}
Knows all (s ∷ rest) = (s.clashes ≡ clash_at all s.place) × Knows all rest

-- the names along these classes are counted, and each knows whether it clashes
pub record IsLineage (l : Lineage) : Type 0 where
  pub descends : Descends l.classes.now place.None (places_of l.steps.items)
  pub slots : (name : Text) → count l.slots name ≡ times name (flat_map (slots_at l.classes.now) (places_of l.steps.items))
  pub methods : (name : Text) → count l.methods name ≡ times name (flat_map (methods_at l.classes.now) (places_of l.steps.items))
  pub clashes : Knows l.classes.now l.steps.items

-- the class at a place is the last
pub record IsAt (l : Lineage) (p : BasePlace) : Type 0 where
  pub lineage : IsLineage l
  pub last : last_or place.None (places_of l.steps.items) ≡ p
