-- What the imports of a module bind, as names are resolved against it, by the images of the modules that they name.
use Rattle.std.specs.Prelude.{ℕ, List, [], ◌∷◌, map, reverse, if◌then◌else◌, Option, Some, None}
use Rattle.std.specs.List.{filter_map, flat_map}
use Rattle.std.specs.Option.{option_map}
use Rattle.py_tree.specs.Syntax as x
use Rattle.py_tree.specs.Syntax.{Text, Kind, Statement, Statements}
use Rattle.py_tree.specs.TopPart.{top_imports}
use Rattle.py_tree.specs.declared.statement.Import.{Import}
use Rattle.py_values.specs.declared.class_id.ClassId.{ClassId}
use Rattle.symbols.specs.Bindings.{alias_or, first_mentions, is_marker_import}
use Rattle.symbols.specs.declared.class.ClassKind.{ClassKind}
use Rattle.symbols.specs.declared.outer.ModuleClass.{ModuleClass}
use Rattle.symbols.specs.declared.outer.Outer.{Outer}
use Rattle.symbols.specs.declared.outer.OuterBinding.{OuterBinding}
use Rattle.symbols.specs.declared.outer.OuterKind.{OuterKind}
use Rattle.symbols.specs.declared.outer.OuterKind.TheVariants as outer
use Rattle.gradual_types.specs.declared.facts.ClassFacts.{ClassFacts}
use Rattle.gradual_types.specs.Values as v
use Rattle.gradual_types.specs.Values.{Value}
use Rattle.gradual_types.specs.States.{Variable}
use Rattle.py_meaning.specs.Modules.{World, image_at, image_globals}
use Rattle.py_meaning.specs.Classes.{class_facts, line_of, slots_of}
use Rattle.py_meaning.specs.Imports.{module_named, taken, binds_nothing}

-- ---- classes

abbrev pub own_methods : World → ClassId → List Text
own_methods w c = names_in (class_facts w c) where
  names_in : Option ClassFacts → List Text
  names_in None = []
  names_in (Some facts) = map (λ method. method.name) facts.methods

-- a class with all its slots and methods, those of its bases first
abbrev pub class_kind : World → ClassId → ClassKind
class_kind w c = record {
  id = c;
  slots = map (λ slot. slot.name) (slots_of w c);
  methods = first_mentions (flat_map (own_methods w) (reverse (line_of w c)));
}

abbrev pub class_in : World → Variable → Option ModuleClass
class_in w x = of_value x.value where
  of_value : Option Value → Option ModuleClass
  of_value (Some (v.Class c)) = Some (record { name = x.name; class = class_kind w c })
  of_value other = None

-- the globals of a module that hold classes
abbrev pub classes_of : World → ℕ → List ModuleClass
classes_of w m = filter_map (class_in w) (image_globals (image_at w m))

-- ---- what a name is bound to

abbrev pub kind_of : World → Option Value → OuterKind
kind_of w (Some (v.Class c)) = outer.Class (class_kind w c)
kind_of w (Some (v.Module m)) = outer.Module (classes_of w m)
kind_of w other = outer.Other

abbrev pub binding : Import → OuterKind → OuterBinding
binding i kind = record { name = alias_or i.alias i.name; kind = kind }

abbrev pub module_bindings : World → Import → List OuterBinding
module_bindings w i = if is_marker_import i then [] else binding i (kind_of w (option_map v.Module (module_named w i.name))) ∷ []

abbrev pub member_binding : World → Text → Import → OuterBinding
member_binding w from i = binding i (kind_of w (taken w from i.name))

abbrev pub kind_bindings : World → Kind → List OuterBinding
kind_bindings w (x.Imports is) = flat_map (module_bindings w) is
kind_bindings w (x.From from is) = if binds_nothing from then [] else map (member_binding w from) is
kind_bindings w kind = []

abbrev pub statement_bindings : World → Statement → List OuterBinding
statement_bindings w (x.On line kind) = kind_bindings w kind

-- of the module of that name and number, over the images of a world
abbrev pub outer_of : World → Text → ℕ → Statements → Outer
outer_of w name number body = record { name = name; number = number; bindings = flat_map (statement_bindings w) (top_imports body) }
