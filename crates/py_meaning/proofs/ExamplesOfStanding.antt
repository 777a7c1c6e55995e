-- The worlds and states of worked bodies belong together, before a body is run and behind it; a state with a value that isn't there doesn't.
use Rattle.std.proofs.Common.{◌≡◌, refl}
use Rattle.std.specs.Prelude.{◌≢◌, ℕ, Bool, true, false, List, [], ◌∷◌, map, length, codes, pos, Option, Some, None}
use Rattle.py_tree.specs.Syntax.{Text, Statements}
use Rattle.py_values.specs.declared.class_id.ClassId.TheVariants as id
use Rattle.py_values.specs.declared.value.Home.TheVariants as home
use Rattle.key_map.specs.Keys as key
use Rattle.gradual_types.specs.Values as v
use Rattle.gradual_types.specs.Values.{Value, Content}
use Rattle.py_values.specs.declared.exception.ExcKind.TheVariants as kind
use Rattle.py_meaning.specs.Classes.{line_of}
use Rattle.py_meaning.specs.Modules.{World, Loaded}
use Rattle.py_meaning.specs.Runs.{start, body_start, opened_objects}
use Rattle.py_meaning.specs.WellFormed.{all_stand, image_stands, line_goes_on}
use Rattle.py_meaning.specs.Worlds.{loaded}
use Rattle.py_meaning.proofs.Ends.{world, ended_state}
use Rattle.py_meaning.proofs.ExamplesOfStatements.{texts_and_containers}
use Rattle.py_meaning.proofs.ExamplesOfCosts.{recursion, super_call, key_error_caught, default_taken}
use Rattle.py_meaning.proofs.ExamplesOfLooks.{stored, passed_and_returned}

abbrev before : Statements → Bool
before body = all_stand (world body) (body_start (world body) 50000)

abbrev behind : Statements → Bool
behind body = all_stand (world body) (ended_state body)

abbrev with_object : Content → Statements → Bool
with_object content body = all_stand (world body) (record (ended_state body) { own = content ∷ [] })

containers_before : before texts_and_containers ≡ true
containers_before = refl

containers_behind : behind texts_and_containers ≡ true
containers_behind = refl

functions_behind : behind recursion ≡ true
functions_behind = refl

defaults_behind : behind default_taken ≡ true
defaults_behind = refl

classes_behind : behind super_call ≡ true
classes_behind = refl

exceptions_behind : behind key_error_caught ≡ true
exceptions_behind = refl

host_values_behind : behind stored ≡ true
host_values_behind = refl

passed_host_values_behind : behind passed_and_returned ≡ true
passed_host_values_behind = refl

-- a primitive, an object that isn't there, a key that its value doesn't show, a key that is there twice, an instance with too few slots, a class that
-- no module has, a module that isn't there

primitive_stands_nowhere : with_object (v.Listed (v.PrimBool true ∷ [])) recursion ≡ false
primitive_stands_nowhere = refl

missing_object : with_object (v.Listed (v.Object (home.Module 0) 1 ∷ [])) recursion ≡ false
missing_object = refl

key_of_another_value : with_object (v.Mapped (record { key = key.Nil; shown = v.Truth true; value = v.Nil } ∷ [])) recursion ≡ false
key_of_another_value = refl

key_of_two_entries : with_object
    (v.Mapped (record { key = key.Int (pos 1); shown = v.Truth true; value = v.Nil } ∷ record { key = key.Int (pos 1); shown = v.Int (pos 1); value = v.Nil } ∷ [])) recursion
    ≡ false
key_of_two_entries = refl

keys_of_two_entries : with_object
    (v.Mapped (record { key = key.Int (pos 1); shown = v.Truth true; value = v.Nil } ∷ record { key = key.Int (pos 2); shown = v.Int (pos 2); value = v.Nil } ∷ [])) recursion
    ≡ true
keys_of_two_entries = refl

instance_of_no_class : with_object (v.Instance (id.User 0 0) []) recursion ≡ false
instance_of_no_class = refl

method_of_another_class : with_object (v.Listed (v.Bound (v.Points []) (v.Function 0 0) ∷ [])) recursion ≡ false
method_of_another_class = refl

own_module : with_object (v.Listed (v.Module 0 ∷ [])) recursion ≡ true
own_module = refl

module_without_image : with_object (v.Listed (v.Module 1 ∷ [])) recursion ≡ false
module_without_image = refl

-- ---- images

abbrev image_of : Statements → Loaded
image_of body = loaded (world body) (ended_state body)

-- of a body's image, with this global alone
abbrev with_global : Text → Option Value → Statements → Bool
with_global name value body = image_stands (world body) (ended_state body)
    (Some (record (image_of body) { image = record ((image_of body).image) { globals = record { name = name; value = value } ∷ [] } }))

global_of_the_tree : with_global (codes "A") (Some v.Nil) texts_and_containers ≡ true
global_of_the_tree = refl

global_of_another_tree : with_global (codes "other") (Some v.Nil) texts_and_containers ≡ false
global_of_another_tree = refl

unbound_global_of_another_tree : with_global (codes "other") None texts_and_containers ≡ true
unbound_global_of_another_tree = refl

-- ---- objects of other modules: at the start of a run as the images hold them, and never fewer or more

others_at_the_start : (w : World) (names : List Text) (frames fuel : ℕ) → map length (start w names frames fuel).others ≡ map length (opened_objects w.images)
others_at_the_start w names frames fuel = refl

abbrev none_of_a_module : List (List Content)
none_of_a_module = [] ∷ []

objects_of_an_image_left_out : map length none_of_a_module ≢ map length (opened_objects (Some (image_of texts_and_containers) ∷ []))
objects_of_an_image_left_out e = absurd cc

-- ---- host slots: as many as the own module names

abbrev without_slots : World
without_slots = record (world stored) { hosts = [] }

host_slot_left_out : length without_slots.hosts ≢ length without_slots.own.facts.hosts
host_slot_left_out e = absurd cc

-- ---- lines of classes

line_behind : line_goes_on (world super_call) (id.User 0 1) (line_of (world super_call) (id.User 0 1)) ≡ true
line_behind = refl

exception_line : line_goes_on (world super_call) (id.Exc kind.KeyError) (line_of (world super_call) (id.Exc kind.KeyError)) ≡ true
exception_line = refl

line_that_comes_back : line_goes_on (world super_call) (id.User 0 0) (id.User 0 0 ∷ id.User 0 0 ∷ []) ≡ false
line_that_comes_back = refl
