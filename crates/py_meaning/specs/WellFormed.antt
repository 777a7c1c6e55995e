-- When a world and a state belong together: what a value names is there, and an object holds what its kind has. No place has a type yet, so no
-- place holds a primitive.
use Rattle.std.specs.Prelude.{◌≡◌, ℕ, suc, pos, Bool, true, false, not, ◌&&◌, ◌||◌, ◌==◌, List, [], ◌∷◌, length, slice_get, Option, Some, None, is_none, is_some, map}
use Rattle.std.specs.List.{list_all, list_any}
use Rattle.py_tree.specs.Syntax.{Param, Statements}
use Rattle.py_values.specs.Builtins.{text_methods, list_methods, dict_methods}
use Rattle.py_values.specs.declared.builtin.Builtin.{Builtin}
use Rattle.py_values.specs.declared.class_id.ClassId.{ClassId}
use Rattle.py_values.specs.declared.class_id.ClassId.TheVariants as id
use Rattle.py_values.specs.declared.value.Home.{Home}
use Rattle.py_values.specs.declared.value.Home.TheVariants as home
use Rattle.key_map.specs.Keys as key
use Rattle.key_map.specs.Keys.{Key, Keys, same}
use Rattle.key_map.specs.Entries.{Entry, keys_in}
use Rattle.symbols.specs.Bindings.{globals}
use Rattle.symbols.specs.Words.{among}
use Rattle.gradual_types.specs.declared.facts.ClassFacts.{ClassFacts}
use Rattle.gradual_types.specs.declared.facts.Method.{Method}
use Rattle.gradual_types.specs.Values as v
use Rattle.gradual_types.specs.Values.{Value, Values, Content}
use Rattle.gradual_types.specs.States.{State, Variable, Default, default_of}
use Rattle.py_meaning.specs.Modules.{World, ModuleText, Loaded, KnownFunction, function_of, function_name, image_at, text_of}
use Rattle.py_meaning.specs.Classes.{class_facts, line_of, slots_of, same_class, own_method}
use Rattle.py_meaning.specs.Comparisons.{same_builtin}
use Rattle.py_meaning.specs.Looks.{objects_of}
use Rattle.py_meaning.specs.Calls.{defaults_of, params_of}
use Rattle.py_meaning.specs.Runs.{opened_objects}

-- ---- functions and classes that a value names

-- each parameter with a default has its value, from the i-th on
abbrev pub have_defaults : ℕ → ℕ → List Param → List Default → Bool
have_defaults n i [] ds = true
have_defaults n i (p ∷ ps) ds = (is_none p.default || is_some (default_of n i ds)) && have_defaults n (suc i) ps ds

abbrev pub function_stands : World → State → ℕ → ℕ → Bool
function_stands w s m n = stands (function_of w m n) where
  stands : Option KnownFunction → Bool
  stands None = false
  stands (Some f) = have_defaults n 0 (params_of f.function) (defaults_of w m s)

abbrev pub methods_stand : World → State → ℕ → Option ClassFacts → Bool
methods_stand w s m None = false
methods_stand w s m (Some c) = list_all (λ (method : Method). function_stands w s m method.function) c.methods

-- the class is there, and so are its methods
abbrev pub class_stands : World → State → ClassId → Bool
class_stands w s (id.User m n) = methods_stand w s m (class_facts w (id.User m n))
class_stands w s (id.Exc k) = true

-- so are the classes that it is below
abbrev pub line_stands : World → State → ClassId → Bool
line_stands w s c = class_stands w s c && list_all (class_stands w s) (line_of w c)

abbrev pub host_slot_stands : World → ℕ → ℕ → Bool
host_slot_stands w m n = in_text (text_of w m) where
  in_text : Option ModuleText → Bool
  in_text None = false
  in_text (Some t) = is_some (slice_get t.facts.hosts n)

-- ---- bound methods

abbrev pub is_same_function : ℕ → ℕ → Option (ℕ × ℕ) → Bool
is_same_function m n None = false
is_same_function m n (Some f) = f.0 == m && f.1 == n

-- the function is a method of the class or of one that it is below
abbrev pub is_method_of : World → ClassId → ℕ → ℕ → Bool
is_method_of w c m n = list_any (λ above. is_same_function m n (own_method w (function_name w m n) above)) (line_of w c)

abbrev pub has_builtin : List Builtin → Value → Bool
has_builtin methods (v.BuiltIn b) = list_any (same_builtin b) methods
has_builtin methods other = false

abbrev pub object_has : World → Option Content → Value → Bool
object_has w (Some (v.Listed vs)) method = has_builtin list_methods method
object_has w (Some (v.Mapped es)) method = has_builtin dict_methods method
object_has w (Some (v.Instance c slots)) (v.Function m n) = is_method_of w c m n
object_has w other method = false

-- the receiver has the method
abbrev pub has_method : World → State → Value → Value → Bool
has_method w s (v.Points text) method = has_builtin text_methods method
has_method w s (v.Object h n) method = object_has w (slice_get (objects_of w h s) n) method
has_method w s other method = false

-- ---- values

-- Of ints outside of 64 bits and of ranges with step 0 nothing is asked here, and none comes about: evaluation owes that it raises in their place
-- (`as_int` and `range_of`), who reads literals and atoms that they are no larger, and who keeps a state has ints of 64 bits by its type and owes
-- the step where it makes a range.
abbrev mutual
  pub value_stands : World → State → Value → Bool
  value_stands w s (v.Prim64 n) = false
  value_stands w s (v.PrimBool b) = false
  value_stands w s (v.Tuple vs) = values_stand w s vs
  value_stands w s (v.Bound receiver method) = value_stands w s receiver && (value_stands w s method && has_method w s receiver method)
  value_stands w s (v.Object h n) = is_some (slice_get (objects_of w h s) n)
  value_stands w s (v.Class c) = line_stands w s c
  value_stands w s (v.Function m n) = function_stands w s m n
  value_stands w s (v.Module m) = is_some (text_of w m)
  value_stands w s (v.Host m n) = host_slot_stands w m n
  value_stands w s other = true

  pub values_stand : World → State → Values → Bool
  values_stand w s v.end_of_values = true
  values_stand w s (v.more_values value values) = value_stands w s value && values_stand w s values

-- where there is one
abbrev pub some_stands : World → State → Option Value → Bool
some_stands w s None = true
some_stands w s (Some value) = value_stands w s value

-- ---- objects

abbrev pub and_key : Option Key → Option Keys → Option Keys
and_key (Some k) (Some ks) = Some (key.more_keys k ks)
and_key k ks = None

abbrev pub tuple_key : Option Keys → Option Key
tuple_key None = None
tuple_key (Some ks) = Some (key.Tuple ks)

abbrev pub of_bool : Bool → Key
of_bool true = key.Int (pos 1)
of_bool false = key.Int (pos 0)

-- the key that a value is, if it is one
abbrev mutual
  pub key_for : Value → Option Key
  key_for v.Nil = Some key.Nil
  key_for (v.Truth b) = Some (of_bool b)
  key_for (v.Int n) = Some (key.Int n)
  key_for (v.Points text) = Some (key.Text text)
  key_for (v.Tuple vs) = tuple_key (keys_for vs)
  key_for other = None

  pub keys_for : Values → Option Keys
  keys_for v.end_of_values = Some key.end_of_keys
  keys_for (v.more_values value values) = and_key (key_for value) (keys_for values)

abbrev pub shows : Option Key → Key → Bool
shows None k = false
shows (Some shown) k = same shown k

-- its key is that of the value that shows it
abbrev pub entry_stands : World → State → Entry Value Value → Bool
entry_stands w s e = shows (key_for e.shown) e.key && (value_stands w s e.shown && value_stands w s e.value)

-- no two are the same
abbrev pub are_distinct : List Key → Bool
are_distinct [] = true
are_distinct (k ∷ ks) = not (list_any (same k) ks) && are_distinct ks

abbrev pub content_stands : World → State → Content → Bool
content_stands w s (v.Listed vs) = list_all (value_stands w s) vs
content_stands w s (v.Mapped es) = are_distinct (keys_in es) && list_all (entry_stands w s) es
content_stands w s (v.Instance c slots) = line_stands w s c && (length slots == length (slots_of w c) && list_all (some_stands w s) slots)

-- ---- a world and a state

abbrev pub variable_stands : World → State → Variable → Bool
variable_stands w s x = some_stands w s x.value

abbrev pub default_stands : World → State → Default → Bool
default_stands w s d = value_stands w s d.value

-- where it is bound
abbrev pub is_known_name : Statements → Variable → Bool
is_known_name body x = is_none x.value || among x.name (globals body)

-- the bound globals of an image are globals of its tree, and what they, its objects and its default values hold is there
abbrev pub image_stands : World → State → Option Loaded → Bool
image_stands w s None = true
image_stands w s (Some l) =
    list_all (is_known_name l.tree) l.image.globals
    && (list_all (variable_stands w s) l.image.globals && (list_all (content_stands w s) l.image.objects && list_all (default_stands w s) l.image.defaults))

-- the home of what is made is no host's, and no image's
abbrev pub is_free_home : World → Home → Bool
is_free_home w home.Host = false
is_free_home w home.Run = true
is_free_home w (home.Module m) = is_none (image_at w m)

-- a line begins with the class itself, goes on as that of its base, and doesn't come back
abbrev pub line_goes_on : World → ClassId → List ClassId → Bool
line_goes_on w c [] = false
line_goes_on w c (first ∷ []) = same_class c first
line_goes_on w c (first ∷ base ∷ rest) = same_class c first && (not (list_any (same_class c) (base ∷ rest)) && same_lines (line_of w base) (base ∷ rest)) where
  same_lines : List ClassId → List ClassId → Bool
  same_lines [] [] = true
  same_lines (a ∷ as') (b ∷ bs) = same_class a b && same_lines as' bs
  same_lines as' bs = false

abbrev pub all_stand : World → State → Bool
all_stand w s =
    is_free_home w w.home
    && (list_all (content_stands w s) s.own
    && (list_all (list_all (content_stands w s)) s.others
    && (list_all (variable_stands w s) s.locals
    && (list_all (variable_stands w s) s.globals
    && (list_all (default_stands w s) s.defaults
    && (list_all (image_stands w s) w.images
    && list_all (value_stands w s) w.hosts))))))

pub record IsWellFormed (w : World) (s : State) : Type 0 where
  pub values : all_stand w s ≡ true
  pub names : map (λ x. x.name) s.globals ≡ globals w.own.tree  -- each bound or unbound, in order
  pub others : map length s.others ≡ map length (opened_objects w.images)  -- as many of each module as its image has
  pub lines : (c : ClassId) → is_some (class_facts w c) ≡ true → line_goes_on w c (line_of w c) ≡ true
