-- No definition of the language: where the first of the things with a name stands among others, for each name.
use Rattle.std.specs.Prelude.{◌≡◌, ◌<◌, ℕ, Bool, List, length, slice_get, take, Option, Some, None}
use Rattle.std.specs.List.{find}
use Rattle.std.specs.Str.{bytes_eq}
use Rattle.py_tree.specs.Syntax.{Text}
use Rattle.symbols.specs.Classes.{Found, module_classes}
use Rattle.symbols.specs.declared.name_map.NameMap.{NameMap}
use Rattle.symbols.specs.declared.outer.ModuleClass.{ModuleClass}
use Rattle.symbols.specs.declared.outer.OuterBinding.{OuterBinding}
use Rattle.symbols.specs.ClassViews.{kinds_of}
use Rattle.symbols.specs.Names.{found}

abbrev pub IsPlace : {X : Type 0} → (X → Bool) → List X → Option ℕ → Type 0
IsPlace test xs None = find test xs ≡ None
IsPlace test xs (Some place) = (place < length xs) × (find test xs ≡ slice_get xs place)

abbrev pub ArePlaces : {X : Type 0} → (X → Text) → List X → NameMap ℕ → Type 0
ArePlaces name_of xs places = (name : Text) → IsPlace (λ x. bytes_eq name (name_of x)) xs (found places name)

abbrev pub class_name : Found → Text
class_name c = c.class.name

abbrev pub outer_name : OuterBinding → Text
outer_name b = b.name

-- where the classes of each binding begin among those of all
abbrev pub AreStarts : List OuterBinding → List ℕ → Type 0
AreStarts bindings starts = (place : ℕ) → place < length bindings → slice_get starts place ≡ Some (length (kinds_of (take place bindings)))

abbrev pub member_name : ModuleClass → Text
member_name c = c.name

-- for each binding, where the first class of each name stands in what it is bound to
abbrev pub AreMembers : List OuterBinding → List (NameMap ℕ) → Type 0
AreMembers bindings members = (place : ℕ) (b : OuterBinding) → slice_get bindings place ≡ Some b → (places : NameMap ℕ) × ((slice_get members place ≡ Some places) × ArePlaces member_name (module_classes b.kind) places)

-- the place of a name among those of a binding
abbrev pub found_inside : Option (NameMap ℕ) → Text → Option ℕ
found_inside None name = None
found_inside (Some places) name = found places name
