-- What steps meet is met by names, attributes and subscripts.
use Rattle.std.specs.Prelude.{ℕ, List, length, codes, slice_get, slice_set, Option, Some, None}
use Rattle.std.specs.Str.{bytes_eq}
use Rattle.py_tree.specs.Syntax.{Text}
use Rattle.py_values.specs.Builtins.{builtins, text_methods, list_methods, dict_methods, named_among}
use Rattle.py_values.specs.declared.builtin.Builtin.{Builtin}
use Rattle.py_values.specs.declared.class_id.ClassId.{ClassId}
use Rattle.py_values.specs.declared.exception.ExcKind.{ExcKind}
use Rattle.py_values.specs.declared.exception.ExcKind.TheVariants as kind
use Rattle.py_values.specs.declared.value.Home.{Home}
use Rattle.key_map.specs.Entries.{find_entry, put_entry}
use Rattle.atom_ops.specs.Operators.{Index}
use Rattle.symbols.specs.Words.{exception_named}
use Rattle.gradual_types.specs.declared.py_type.PyType.{PyType}
use Rattle.gradual_types.specs.Values as v
use Rattle.gradual_types.specs.Values.{Value}
use Rattle.gradual_types.specs.States.{value_of}
use Rattle.py_meaning.specs.Modules.{World, Scope, module_name}
use Rattle.py_meaning.specs.Classes.{Found, slots_of, method_of}
use Rattle.py_meaning.specs.Looks as seen
use Rattle.py_meaning.specs.Looks.{Seen, write, home_of}
use Rattle.py_meaning.specs.Operands.{operand, range_count, range_item}
use Rattle.py_meaning.specs.Boundaries.{Origin, pass}
use Rattle.py_meaning.specs.Names.{globals_of, is_global, is_local, read_local, read_global, read_special, read_builtin, read_name}
use Rattle.py_meaning.specs.Attributes.{slot_number, slot_type, held, bound_builtin, bound_method, function_or_raise, member, attribute, get_attribute, put_slot, set_slot, no_attribute, write_attribute, set_attribute}
use Rattle.py_meaning.specs.Subscripts.{item, get_item, test_item_write, write_item, set_item}
use Rattle.py_meaning.proofs.Steps.{Steps, Kept, at, seq, if_kept, raises, errs, or_raises, looks, sees, may_write_kept, may_write_at_kept}
use Rattle.py_meaning.proofs.StepsOfOperators.{tables, places, items_at, keys}

module _ {w : World} (q : Steps w) where
  -- ---- places with a type

  pub passes : (k : Scope) (origin : Origin) (type : PyType) (value : Value) → Kept q (pass (at w k) origin type value)
  passes k origin type value = q.gives value

  -- ---- names

  pub reads_local : (k : Scope) (name : Text) → Kept q (read_local (at w k) name)
  reads_local k name = q.at_state (λ s. or_raises q kind.UnboundLocalError (value_of name s.locals))

  pub reads_global : (k : Scope) (name : Text) → Kept q (read_global (at w k) name)
  reads_global k name = q.at_state (λ s. or_raises q kind.NameError (value_of name (globals_of w k.«module» s)))

  pub reads_special : (k : Scope) (name : Text) → Kept q (read_special (at w k) name)
  reads_special k name = if_kept q (bytes_eq name (codes "__name__")) (q.gives (v.Points (module_name w k.«module»))) (raises q kind.NameError)

  pub reads_builtin : (k : Scope) (name : Text) (b : Option Builtin) (e : Option ExcKind) → Kept q (read_builtin (at w k) name b e)
  reads_builtin k name (Some b) e = q.gives _
  reads_builtin k name None (Some e) = q.gives _
  reads_builtin k name None None = reads_special k name

  pub reads : (k : Scope) (name : Text) → Kept q (read_name (at w k) name)
  reads k name =
      if_kept q (is_local (at w k) name) (reads_local k name)
      (if_kept q (is_global (at w k) name) (reads_global k name) (reads_builtin k name (named_among builtins name) (exception_named name)))

  -- ---- attributes

  pub binds_builtin : (receiver : Value) (b : Option Builtin) → Kept q (bound_builtin w receiver b)
  binds_builtin receiver None = raises q kind.AttributeError
  binds_builtin receiver (Some b) = q.gives _

  pub binds_method : (receiver : Value) (f : Found) → Kept q (bound_method w receiver f)
  binds_method receiver None = raises q kind.AttributeError
  binds_method receiver (Some f) = q.gives _

  pub finds_function : (f : Found) → Kept q (function_or_raise w f)
  finds_function None = raises q kind.AttributeError
  finds_function (Some f) = q.gives _

  pub members : (x : Value) (class : ClassId) (slots : List (Option Value)) (name : Text) (n : Option ℕ) → Kept q (member w x class slots name n)
  members x class slots name (Some n) = or_raises q kind.AttributeError (held (slice_get slots n))
  members x class slots name None = binds_method x (method_of w class name)

  pub attributes : (x : Value) (a : Seen) (name : Text) → Kept q (attribute w x a name)
  attributes x (seen.Instance h n class slots) name = members x class slots name (slot_number (slots_of w class) name)
  attributes x (seen.Class class) name = finds_function (method_of w class name)
  attributes x (seen.Module m) name = q.at_state (λ s. or_raises q kind.AttributeError (value_of name (globals_of w m s)))
  attributes x (seen.Points text) name = binds_builtin x (named_among text_methods name)
  attributes x (seen.Listed h n vs) name = binds_builtin x (named_among list_methods name)
  attributes x (seen.Mapped h n es) name = binds_builtin x (named_among dict_methods name)
  attributes x other name = raises q kind.AttributeError

  pub gets_attribute : (x : Value) (name : Text) → Kept q (get_attribute w x name)
  gets_attribute x name = q.bind (looks q x) (λ a. attributes x a name)

  pub puts_slot : (h : Home) (n number : ℕ) (value : Value) (a : Seen) → Kept q (put_slot w h n number value a)
  puts_slot h n number value (seen.Instance i m class slots) = q.writes h n (v.Instance class (slice_set slots number (Some value)))
  puts_slot h n number value other = raises q kind.AttributeError

  pub sets_slot : (k : Scope) (h : Home) (n : ℕ) (class : ClassId) (origin : Origin) (value : Value) (number : Option ℕ) → Kept q (set_slot (at w k) h n class origin value number)
  sets_slot k h n class origin value None = raises q kind.AttributeError
  sets_slot k h n class origin value (Some number) = q.bind (passes k origin (slot_type (slots_of w class) number) value) (λ passed. q.bind (sees q h n) (λ object. puts_slot h n number passed object))

  pub has_no_attribute : (h : Option Home) → Kept q (no_attribute w h)
  has_no_attribute h = seq q (may_write_at_kept q h) (raises q kind.AttributeError)

  pub writes_attribute : (k : Scope) (x : Value) (name : Text) (origin : Origin) (value : Value) (a : Seen) → Kept q (write_attribute (at w k) x name origin value a)
  writes_attribute k x name origin value (seen.Instance h n class slots) =
      seq q (may_write_at_kept q (home_of x)) (sets_slot k h n class origin value (slot_number (slots_of w class) name))
  writes_attribute k x name origin value (seen.Module m) = has_no_attribute (home_of x)
  writes_attribute k x name origin value (seen.Class class) = has_no_attribute (home_of x)
  writes_attribute k x name origin value (seen.Function m n) = has_no_attribute (home_of x)
  writes_attribute k x name origin value other = raises q kind.AttributeError

  pub sets_attribute : (k : Scope) (x : Value) (name : Text) (origin : Origin) (value : Value) → Kept q (set_attribute (at w k) x name origin value)
  sets_attribute k x name origin value = q.bind (looks q x) (writes_attribute k x name origin value)

  -- ---- subscripts

  pub items : (i : Value) (a j : Seen) → Kept q (item w i a j)
  items i (seen.Tuple vs) j = places q (length vs) j (items_at q vs)
  items i (seen.Listed h n vs) j = places q (length vs) j (items_at q vs)
  items i (seen.Range start stop step) j = places q (range_count start stop step) j (λ n. q.gives (v.Int (range_item start step n)))
  items i (seen.Mapped h n es) j = q.bind (keys q i) (λ found. or_raises q kind.KeyError (find_entry found.0 es))
  items i a j = tables q (Index (operand a) (operand j))

  pub gets_item : (x i : Value) → Kept q (get_item w x i)
  gets_item x i = q.bind (looks q x) (λ a. q.bind (looks q i) (λ j. items i a j))

  pub tests_item_write : (a : Seen) → Kept q (test_item_write w a)
  tests_item_write (seen.Listed h n vs) = may_write_kept q h
  tests_item_write (seen.Mapped h n es) = may_write_kept q h
  tests_item_write other = q.gives tt

  pub writes_item : (i value : Value) (a j : Seen) → Kept q (write_item w i value a j)
  writes_item i value (seen.Listed h n vs) j = places q (length vs) j (λ place. q.writes h n (v.Listed (slice_set vs place value)))
  writes_item i value (seen.Mapped h n es) j = q.bind (keys q i) (λ found. q.writes h n (v.Mapped (put_entry found.0 found.1 value es)))
  writes_item i value other j = errs q

  pub sets_item : (x i value : Value) → Kept q (set_item w x i value)
  sets_item x i value = q.bind (looks q x) (λ a. q.bind (tests_item_write a) (λ b. q.bind (looks q i) (λ j. writes_item i value a j)))
