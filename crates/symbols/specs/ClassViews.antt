-- No definition of the language: the classes, each with its bases, that lists of own members stand for.
use Rattle.std.specs.Prelude.{◌≡◌, ℕ, List, [], ◌∷◌, ◌++◌, map, length, slice_get, Option, Some, None}
use Rattle.std.specs.List.{flat_map}
use Rattle.py_values.specs.declared.class_id.ClassId.TheVariants as id
use Rattle.symbols.specs.declared.class.BasePlace.{BasePlace}
use Rattle.symbols.specs.declared.class.BasePlace.TheVariants as place
use Rattle.symbols.specs.declared.class.ClassKind.{ClassKind}
use Rattle.symbols.specs.declared.class.OwnClass.{OwnClass}
use Rattle.symbols.specs.declared.class_list.FoundClasses.{FoundClasses}
use Rattle.symbols.specs.declared.outer.Outer.{Outer}
use Rattle.symbols.specs.declared.outer.OuterBinding.{OuterBinding}
use Rattle.symbols.specs.declared.outer.OuterKind.{OuterKind}
use Rattle.symbols.specs.declared.outer.OuterKind.TheVariants as outer
use Rattle.symbols.specs.BasePlaces.{IsPlaced}
use Rattle.symbols.specs.BaseKinds as base
use Rattle.symbols.specs.BaseKinds.{Base}
use Rattle.symbols.specs.Classes.{Found, base_or, class_below, exception_kind, kind_of_found}

-- the base at a place, behind these classes
abbrev pub base_at : List ClassKind → List Found → BasePlace → Base
base_at others earlier place.None = base.None
base_at others earlier (place.Earlier number) = base_or (kind_of_found (slice_get earlier number)) base.Bad
base_at others earlier (place.Imported number) = base_or (slice_get others number) base.Bad
base_at others earlier (place.Exception kind) = base.Class (exception_kind kind)
base_at others earlier place.Bad = base.Bad

-- a class behind these
abbrev pub joined : ℕ → List ClassKind → List Found → OwnClass → Found
joined home others earlier c = class_below (id.User home (length earlier)) (base_at others earlier c.base) c.line c.name c.slots c.methods

abbrev pub joined_behind : ℕ → List ClassKind → List Found → List OwnClass → List Found
joined_behind home others earlier [] = []
joined_behind home others earlier (c ∷ rest) = joined home others earlier c ∷ joined_behind home others (earlier ++ joined home others earlier c ∷ []) rest

abbrev pub founds : FoundClasses → List Found
founds all = joined_behind all.home all.others [] all.own

-- the classes that an import binds a name to, or that stand in what it binds it to
abbrev pub kinds_in : OuterKind → List ClassKind
kinds_in (outer.Class c) = c ∷ []
kinds_in (outer.Module classes) = map (λ c. c.class) classes
kinds_in outer.Other = []

abbrev pub kinds_of : List OuterBinding → List ClassKind
kinds_of bindings = flat_map (λ b. kinds_in b.kind) bindings

-- the number of the class that is wanted among others, where one is
abbrev pub StandsAt : List ClassKind → Option ClassKind → Option ℕ → Type 0
StandsAt others wanted None = wanted ≡ None
StandsAt others wanted (Some number) = (kind : ClassKind) × ((wanted ≡ Some kind) × (slice_get others number ≡ Some kind))

abbrev pub kinds_found : List Found → List ClassKind
kinds_found found = map (λ f. f.class.kind) found

-- the classes of a module with these own members, whose imports bind this
abbrev pub found_in : Outer → List OwnClass → List Found
found_in o own = joined_behind o.number (kinds_of o.bindings) [] own

-- what the imports of a module bind, and the own members of its first classes
pub record Tabled : Type 0 where
  pub outer : Outer
  pub own : List OwnClass

abbrev pub found_at : Tabled → List Found
found_at t = found_in t.outer t.own

-- and one more class behind them
abbrev pub joined_last : Tabled → OwnClass → Found
joined_last t c = joined t.outer.number (kinds_of t.outer.bindings) (found_at t) c

-- the place of a base behind these classes
pub record IsBase (t : Tabled) (wanted : Base) (place : BasePlace) : Type 0 where
  pub is : base_at (kinds_of t.outer.bindings) (found_at t) place ≡ wanted
  pub placed : IsPlaced (length (kinds_of t.outer.bindings)) (length t.own) place
