-- Assignments: `T = E`, `T: E = E` and `T OP= E`.
use Rattle.std.specs.Prelude.{ℕ, ◌==◌, List, ◌∷◌, length, slice_get, Option, Some, None}
use Rattle.py_tree.specs.Syntax as x
use Rattle.py_tree.specs.Syntax.{Text, Expression, Target}
use Rattle.py_tree.specs.declared.operator.BinaryOp.{BinaryOp}
use Rattle.py_tree.specs.declared.operator.BinaryOp.TheVariants.{Add}
use Rattle.py_values.specs.declared.exception.ExcKind.TheVariants as kind
use Rattle.py_values.specs.declared.value.Home.{Home}
use Rattle.gradual_types.specs.declared.py_type.PyType.TheVariants.{Dynamic}
use Rattle.gradual_types.specs.Values as v
use Rattle.gradual_types.specs.Values.{Value, Content}
use Rattle.gradual_types.specs.States.{State}
use Rattle.py_meaning.specs.Acts.{Act, ◌>>=◌, ◌>>◌, give, done, choose}
use Rattle.py_meaning.specs.Modules.{World, Setting}
use Rattle.py_meaning.specs.Looks.{raise, may_write, objects_of}
use Rattle.py_meaning.specs.Operands.{binary}
use Rattle.py_meaning.specs.Boundaries.{Origin, From, pass, type_of_name}
use Rattle.py_meaning.specs.Names.{read_name, bind_name}
use Rattle.py_meaning.specs.Attributes.{get_attribute, set_attribute}
use Rattle.py_meaning.specs.Subscripts.{get_item, set_item}
use Rattle.py_meaning.specs.Iterables.{gather}
use Rattle.py_meaning.specs.Calls.{Oracle}
use Rattle.py_meaning.specs.Methods.{append_all}
use Rattle.py_meaning.specs.Expressions.{eval}

-- ---- `T = E`, where the value of E is known

abbrev pub assign_name : Setting → Text → Origin → Value → Act (Unit {0})
assign_name c name origin value = pass c origin (type_of_name c name) value >>= bind_name c name

abbrev pub assign_all : Setting → List Text → List Value → Act (Unit {0})
assign_all c (name ∷ names) (value ∷ values) = assign_name c name (From Dynamic) value >> assign_all c names values
assign_all c names values = done

-- all items are gathered first
abbrev pub unpack : Setting → List Text → Value → Act (Unit {0})
unpack c names value = do
  values ← gather c.world value
  choose (length values == length names) (assign_all c names values) (raise c.world kind.ValueError)

abbrev pub assign : Setting → Oracle → Target → Origin → Value → Act (Unit {0})
assign c call (x.ToName name) origin value = assign_name c name origin value
assign c call (x.ToNames names) origin value = unpack c names value
assign c call (x.ToAttr e name) origin value = do
  object ← eval c call e
  set_attribute c object name origin value
assign c call (x.ToIndex e i) origin value = do
  object ← eval c call e
  index ← eval c call i
  set_item c.world object index value

-- ---- `T OP= E`

-- the place of a value that is a list
abbrev pub list_place : World → Value → State → Option (Home × ℕ)
list_place w (v.Object h n) s = if_list (slice_get (objects_of w h s) n) where
  if_list : Option Content → Option (Home × ℕ)
  if_list (Some (v.Listed vs)) = Some (h, n)
  if_list other = None
list_place w other s = None

-- to a list the items of an iterable are appended in place
abbrev pub extended : World → Value → Value → BinaryOp → Option (Home × ℕ) → Act Value
extended w old value Add (Some place) = may_write w place.0 >> gather w value >>= append_all w place.0 place.1 >> give old
extended w old value operator place = binary w operator old value

abbrev pub augmented : World → BinaryOp → Value → Value → Act Value
augmented w operator old value = λ s. extended w old value operator (list_place w old s) s

-- the parts of the target are evaluated once
abbrev pub augment : Setting → Oracle → Target → BinaryOp → Act Value → Act (Unit {0})
augment c call (x.ToName name) operator right = do
  old ← read_name c name
  value ← right
  new ← augmented c.world operator old value
  assign_name c name (From Dynamic) new
augment c call (x.ToAttr e name) operator right = do
  object ← eval c call e
  old ← get_attribute c.world object name
  value ← right
  new ← augmented c.world operator old value
  set_attribute c object name (From Dynamic) new
augment c call (x.ToIndex e i) operator right = do
  object ← eval c call e
  index ← eval c call i
  old ← get_item c.world object index
  value ← right
  new ← augmented c.world operator old value
  set_item c.world object index new
augment c call (x.ToNames names) operator right = done  -- no line spells it
