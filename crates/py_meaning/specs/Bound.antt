-- What the globals hold that defs, classes and imports bind: where they are bound, what the statement gives over these images.
use Rattle.std.specs.Prelude.{◌≡◌, ℕ, true, if◌then◌else◌, List, [], ◌∷◌, length, codes, slice_get, Some, None}
use Rattle.std.specs.List.{Contains, list_all, flat_map}
use Rattle.std.specs.Option.{option_and_then, option_map}
use Rattle.std.specs.Str.{bytes_eq}
use Rattle.py_tree.specs.Syntax as x
use Rattle.py_tree.specs.Syntax.{Text, Kind, Statement, Statements}
use Rattle.py_tree.specs.Order.{of_scope}
use Rattle.py_tree.specs.declared.statement.Import.{Import}
use Rattle.py_values.specs.declared.class_id.ClassId.TheVariants as id
use Rattle.symbols.specs.Bindings.{alias_or, is_marker_import}
use Rattle.gradual_types.specs.declared.facts.ClassFacts.{ClassFacts}
use Rattle.gradual_types.specs.Values as v
use Rattle.gradual_types.specs.Values.{Value}
use Rattle.gradual_types.specs.States.{State, Variable, value_of}
use Rattle.gradual_types.specs.Images.{Atom, atom_value}
use Rattle.py_meaning.specs.Modules.{World, ModuleText, Loaded, FunctionIn, functions, written_name, image_at, is_own}
use Rattle.py_meaning.specs.WellFormed.{IsWellFormed, value_stands}
use Rattle.py_meaning.specs.Imports.{module_named, global_of_module, binds_nothing}

-- a host slot as it is, or the atom in its place
pub data IsHostOrAtom (m n : ℕ) : Value → Type 0 where
  host : IsHostOrAtom m n (v.Host m n)
  atom : (a : Atom) → IsHostOrAtom m n (atom_value a)

-- what an import statement gives: a name, and a module's number, a module's global, or a host slot
pub data Given : Type 0 where
  GivesModule : Text → Text → Given  -- the name that is bound, and that of the module
  GivesGlobal : Text → Text → Text → Given  -- the name that is bound, the module's, and the global's
  GivesHost : Text → Text → Given  -- the name that is bound, and that of the host slot

abbrev pub module_given : Import → List Given
module_given i = if is_marker_import i then [] else GivesModule (alias_or i.alias i.name) i.name ∷ []

abbrev pub member_given : Text → Import → List Given
member_given from i =
    if binds_nothing from then []
    else (if bytes_eq from (codes "__host__") then GivesHost (alias_or i.alias i.name) i.name ∷ []
    else GivesGlobal (alias_or i.alias i.name) from i.name ∷ [])

abbrev pub kind_given : Kind → List Given
kind_given (x.Imports is) = flat_map module_given is
kind_given (x.From from is) = flat_map (member_given from) is
kind_given kind = []

abbrev pub statement_given : Statement → List Given
statement_given (x.On line kind) = kind_given kind

abbrev pub given : Statements → List Given
given body = flat_map statement_given (of_scope body)

-- the value is what was given
abbrev pub IsGiven : World → ℕ → List Text → Given → List Variable → Type 0
IsGiven w m hosts (GivesModule name from) xs = (value : Value) → value_of name xs ≡ Some value → option_map v.Module (module_named w from) ≡ Some value
IsGiven w m hosts (GivesGlobal name from global) xs = (value : Value) → value_of name xs ≡ Some value → option_and_then (global_of_module w global) (module_named w from) ≡ Some value
IsGiven w m hosts (GivesHost name slot) xs = (value : Value) → value_of name xs ≡ Some value → (n : ℕ) → slice_get hosts n ≡ Some slot → IsHostOrAtom m n value

-- of the module of that number, with these globals
pub record AreBound (w : World) (m : ℕ) (t : ModuleText) (xs : List Variable) : Type 0 where
  pub defs : (n : ℕ) (f : FunctionIn) → slice_get (functions t.tree) n ≡ Some f → f.class ≡ None → (value : Value) → value_of (written_name f.function) xs ≡ Some value → value ≡ v.Function m n
  pub classes : (n : ℕ) (c : ClassFacts) → slice_get t.facts.classes n ≡ Some c → (value : Value) → value_of c.name xs ≡ Some value → value ≡ v.Class (id.User m n)
  pub imports : (g : Given) → Contains (given t.tree) g → IsGiven w m t.facts.hosts g xs

-- of the module whose body is run, and of each that has an image
pub record AllBound (w : World) (s : State) : Type 0 where
  pub own : (m : ℕ) → (is_own w m ≡ true) → AreBound w m w.own s.globals
  pub images : (m : ℕ) (l : Loaded) → image_at w m ≡ Some l → AreBound w m (record { tree = l.tree; facts = l.image.facts }) l.image.globals

-- each host slot of the own module, which has that number, holds its host value or an atom
pub record HoldHosts (w : World) (m : ℕ) : Type 0 where
  pub as_many : length w.hosts ≡ length w.own.facts.hosts
  pub each : (n : ℕ) (value : Value) → slice_get w.hosts n ≡ Some value → IsHostOrAtom m n value

-- a world, a state, and the values with which a run begins belong together
pub record BelongTogether (w : World) (s : State) (begins : List Value) : Type 0 where
  pub formed : IsWellFormed w s
  pub bound : AllBound w s
  pub hosts : (m : ℕ) → is_own w m ≡ true → HoldHosts w m
  pub values : list_all (value_stands w s) begins ≡ true
