-- Reading and binding names.
use Rattle.std.specs.Prelude.{ℕ, Bool, false, List, codes, if◌then◌else◌, Option, Some, None}
use Rattle.std.specs.Str.{bytes_eq}
use Rattle.py_tree.specs.Syntax.{Text}
use Rattle.py_values.specs.Builtins.{builtins, named_among}
use Rattle.py_values.specs.declared.builtin.Builtin.{Builtin}
use Rattle.py_values.specs.declared.class_id.ClassId.TheVariants as id
use Rattle.py_values.specs.declared.exception.ExcKind.{ExcKind}
use Rattle.py_values.specs.declared.exception.ExcKind.TheVariants as kind
use Rattle.symbols.specs.Words.{among, exception_named}
use Rattle.symbols.specs.Bindings.{globals}
use Rattle.gradual_types.specs.Values as v
use Rattle.gradual_types.specs.Values.{Value}
use Rattle.gradual_types.specs.States.{State, Variable, value_of, with_value}
use Rattle.py_meaning.specs.Acts.{Act, Gives, give}
use Rattle.py_meaning.specs.Modules.{World, Setting, ModuleText, is_own, image_at, image_globals, text_of, module_name}
use Rattle.py_meaning.specs.Looks.{raise, or_raise}

-- the globals of the module of that number
abbrev pub globals_of : World → ℕ → State → List Variable
globals_of w m s = if is_own w m then s.globals else image_globals (image_at w m)

abbrev pub is_global : Setting → Text → Bool
is_global c name = in_text (text_of c.world c.scope.«module») where
  in_text : Option ModuleText → Bool
  in_text None = false
  in_text (Some t) = among name (globals t.tree)

abbrev pub is_local : Setting → Text → Bool
is_local c name = in_names c.scope.locals where
  in_names : Option (List Text) → Bool
  in_names None = false
  in_names (Some names) = among name names

abbrev pub read_local : Setting → Text → Act Value
read_local c name = λ s. or_raise c.world kind.UnboundLocalError (value_of name s.locals) s

abbrev pub read_global : Setting → Text → Act Value
read_global c name = λ s. or_raise c.world kind.NameError (value_of name (globals_of c.world c.scope.«module» s)) s

-- the name of the module itself
abbrev pub read_special : Setting → Text → Act Value
read_special c name = if bytes_eq name (codes "__name__") then give (v.Points (module_name c.world c.scope.«module»)) else raise c.world kind.NameError

-- a builtin, or an exception class
abbrev pub read_builtin : Setting → Text → Option Builtin → Option ExcKind → Act Value
read_builtin c name (Some b) k = give (v.BuiltIn b)
read_builtin c name None (Some k) = give (v.Class (id.Exc k))
read_builtin c name None None = read_special c name

-- a local of the function, else a global of the module, else a builtin
abbrev pub read_name : Setting → Text → Act Value
read_name c name =
    if is_local c name then read_local c name
    else (if is_global c name then read_global c name
    else read_builtin c name (named_among builtins name) (exception_named name))

-- bound to a value, or unbound
abbrev pub set_name : Setting → Text → Option Value → Act (Unit {0})
set_name c name value = in_scope c.scope.locals where
  in_scope : Option (List Text) → Act (Unit {0})
  in_scope None = λ s. Gives (record s { globals = with_value name value s.globals }) tt
  in_scope (Some names) = λ s. Gives (record s { locals = with_value name value s.locals }) tt

abbrev pub bind_name : Setting → Text → Value → Act (Unit {0})
bind_name c name value = set_name c name (Some value)
