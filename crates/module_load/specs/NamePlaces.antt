-- No definition of the language: the first places of names in a list.
use Rattle.std.specs.Prelude.{◌≡◌, ℕ, List, Option}
use Rattle.std.specs.HashMap.{get_by}
use Rattle.std.specs.List.{position}
use Rattle.std.specs.Str.{bytes_eq}
use Rattle.py_tree.specs.Syntax.{Text}
use Rattle.symbols.specs.Names.{found}
use Rattle.symbols.specs.declared.name_map.NameMap.{NameMap}
use Rattle.module_load.specs.declared.name_places.NamePlaces.{NamePlaces}

-- the place of a name
abbrev pub first_place : NamePlaces → Text → Option ℕ
first_place places name = get_by (λ key. bytes_eq name key.items) places.map

-- each name has the first place at which it stands among these
abbrev pub ArePlacesOf : NamePlaces → List Text → Type 0
ArePlacesOf places names = (name : Text) → first_place places name ≡ position (bytes_eq name) names

-- each name has the number of the first of these that is the same
abbrev pub AreNumbersOf : NameMap ℕ → List Text → Type 0
AreNumbersOf numbers names = (name : Text) → found numbers name ≡ position (bytes_eq name) names
