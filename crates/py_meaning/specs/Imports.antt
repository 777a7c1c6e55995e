-- What import statements bind: modules and the globals of modules that have an image, and host values.
use Rattle.std.specs.Prelude.{ℕ, Bool, false, ◌||◌, List, [], ◌∷◌, codes, if◌then◌else◌, slice_get, Option, Some, None}
use Rattle.std.specs.List.{position}
use Rattle.std.specs.Option.{option_and_then, option_map}
use Rattle.std.specs.Str.{bytes_eq}
use Rattle.py_tree.specs.Syntax.{Text}
use Rattle.py_tree.specs.declared.statement.Import.{Import}
use Rattle.symbols.specs.Bindings.{alias_or, is_marker_import}
use Rattle.gradual_types.specs.Values as v
use Rattle.gradual_types.specs.Values.{Value}
use Rattle.gradual_types.specs.States.{value_of}
use Rattle.py_meaning.specs.Acts.{Act, ◌>>◌, done, choose}
use Rattle.py_meaning.specs.Modules.{World, Setting, Loaded, image_at, image_globals}
use Rattle.py_meaning.specs.Names.{set_name}

abbrev pub is_named : Text → Option Loaded → Bool
is_named name None = false
is_named name (Some l) = bytes_eq name l.image.facts.name

-- the number of the module of that name, where it has an image
abbrev pub module_named : World → Text → Option ℕ
module_named w name = position (is_named name) w.images

-- ---- `import NAME as NAME, ..`

-- a marker binds nothing
abbrev pub import_modules : Setting → List Import → Act (Unit {0})
import_modules c [] = done
import_modules c (i ∷ is) = choose (is_marker_import i) done (set_name c (alias_or i.alias i.name) (option_map v.Module (module_named c.world i.name))) >> import_modules c is

-- ---- `from NAME import NAME as NAME, ..`

-- what is taken from these is told before a module is run
abbrev pub binds_nothing : Text → Bool
binds_nothing from = bytes_eq from (codes "__future__") || (bytes_eq from (codes "typing") || bytes_eq from (codes "__static__"))

-- a host slot of the module whose body is run
abbrev pub host_value : World → Text → Option Value
host_value w name = option_and_then (slice_get w.hosts) (position (bytes_eq name) w.own.facts.hosts)

abbrev pub global_of_module : World → Text → ℕ → Option Value
global_of_module w name m = value_of name (image_globals (image_at w m))

abbrev pub taken : World → Text → Text → Option Value
taken w from name = if bytes_eq from (codes "__host__") then host_value w name else option_and_then (global_of_module w name) (module_named w from)

abbrev pub import_members : Setting → Text → List Import → Act (Unit {0})
import_members c from [] = done
import_members c from (i ∷ is) = choose (binds_nothing from) done (set_name c (alias_or i.alias i.name) (taken c.world from i.name)) >> import_members c from is
