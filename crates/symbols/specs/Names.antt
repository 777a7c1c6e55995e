-- No definition of the language: names as a set that keeps the order in which they came, and names with values.
use Rattle.std.specs.Prelude.{if◌then◌else◌, List, [], ◌∷◌, ◌++◌, Option}
use Rattle.std.specs.HashMap.{get_by}
use Rattle.std.specs.Str.{bytes_eq}
use Rattle.py_tree.specs.Syntax.{Text}
use Rattle.symbols.specs.Words.{among}
use Rattle.symbols.specs.declared.name_map.NameMap.{NameMap}

-- the names with one more, where it isn't among them
abbrev pub with_name : List Text → Text → List Text
with_name names name = if among name names then names else names ++ name ∷ []

-- the names with each of more in turn
abbrev pub with_names : List Text → List Text → List Text
with_names names [] = names
with_names names (name ∷ more) = with_names (with_name names name) more

-- the value of a name
abbrev pub found : {V : Type 0} → NameMap V → Text → Option V
found map name = get_by (λ key. bytes_eq name key.now) map.map
