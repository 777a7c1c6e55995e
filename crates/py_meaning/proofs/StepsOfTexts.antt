-- What steps meet is met by `repr` and `str`.
use Rattle.std.specs.Prelude.{ℕ, zero, suc, Bool, true, false, List, [], ◌∷◌, codes, Option, Some, None, IfSome}
use Rattle.py_tree.specs.Syntax.{Text}
use Rattle.py_values.specs.Builtins.{name_of}
use Rattle.py_values.specs.declared.class_id.ClassId.{ClassId}
use Rattle.py_values.specs.declared.exception.ExcKind.TheVariants as kind
use Rattle.key_map.specs.Entries.{Entry}
use Rattle.gradual_types.specs.Values.{Value}
use Rattle.py_meaning.specs.Acts.{Act}
use Rattle.py_meaning.specs.Modules.{World, module_name, function_name}
use Rattle.py_meaning.specs.Classes.{class_name, is_exception}
use Rattle.py_meaning.specs.Looks as seen
use Rattle.py_meaning.specs.Looks.{Seen}
use Rattle.py_meaning.specs.TextForms.{Writer, say, then_say, between, after_comma, items_text, entry_text, range_text, in_angles, method_name, atom_text, tuple_end, nested, args_in, exception_text, seen_repr, repr, args_text, instance_str, seen_str, str}
use Rattle.py_meaning.proofs.Steps.{Steps, Kept, seq, chosen, raises, looks}

module _ {w : World} (q : Steps w) where
  pub says : (text : Text) → Kept q (say text)
  says text = seq q (q.pays _) (q.gives text)

  pub says_then : {first next : Act Text} → Kept q first → Kept q next → Kept q (then_say first next)
  says_then hf hn = q.bind hf (λ a. q.bind hn (λ b. q.gives _))

  pub says_between : (a b : Text) {act : Act Text} → Kept q act → Kept q (between a act b)
  says_between a b h = says_then (says a) (says_then h (says b))

  -- ---- items

  module _ {A : Type 0} {text : A → Act Text} (h : (x : A) → Kept q (text x)) where
    pub more_items : (xs : List A) → Kept q (after_comma text xs)
    more_items [] = q.gives []
    more_items (x ∷ xs) = says_then (says (codes ", ")) (says_then (h x) (more_items xs))

    pub items_kept : (xs : List A) → Kept q (items_text text xs)
    items_kept [] = q.gives []
    items_kept (x ∷ xs) = says_then (h x) (more_items xs)

  pub entries_said : {text : Value → Act Text} → ((x : Value) → Kept q (text x)) → (e : Entry Value Value) → Kept q (entry_text text e)
  entries_said h e = says_then (h e.shown) (says_then (says (codes ": ")) (h e.value))

  -- ---- `repr`

  abbrev pub KeptWriter : Writer → Type 0
  KeptWriter writer = IfSome writer (λ text. (x : Value) → Kept q (text x))

  pub nests : (deeper : Writer) → KeptWriter deeper → {act : (Value → Act Text) → Act Text} → ((text : Value → Act Text) → ((x : Value) → Kept q (text x)) → Kept q (act text))
      → Kept q (nested w deeper act)
  nests None h k = raises q kind.RecursionError
  nests (Some text) h k = k text h

  pub exceptions_said : (c : ClassId) (slots : List (Option Value)) (text : Value → Act Text) → ((x : Value) → Kept q (text x)) → Kept q (exception_text w c slots text)
  exceptions_said c slots text h = says_then (says (class_name w c)) (says_between (codes "(") (codes ")") (items_kept h (args_in slots)))

  pub reprs_seen : (deeper : Writer) → KeptWriter deeper → (a : Seen) → Kept q (seen_repr w deeper a)
  reprs_seen deeper h (seen.Tuple vs) = nests deeper h (λ text k. says_between (codes "(") (tuple_end vs) (items_kept k vs))
  reprs_seen deeper h (seen.Listed i n vs) = nests deeper h (λ text k. says_between (codes "[") (codes "]") (items_kept k vs))
  reprs_seen deeper h (seen.Mapped i n es) = nests deeper h (λ text k. says_between (codes "{") (codes "}") (items_kept (entries_said k) es))
  reprs_seen deeper h (seen.Instance i n c slots) = chosen q (is_exception w c) (nests deeper h (exceptions_said c slots)) (says (in_angles (class_name w c) (codes " object")))
  reprs_seen deeper h (seen.Range start stop step) = says (range_text start stop step)
  reprs_seen deeper h (seen.Class c) = says (in_angles (codes "class ") (class_name w c))
  reprs_seen deeper h (seen.Function m n) = says (in_angles (codes "function ") (function_name w m n))
  reprs_seen deeper h (seen.Bound receiver method) = says (in_angles (codes "bound method ") (method_name w method))
  reprs_seen deeper h (seen.Module m) = says (in_angles (codes "module ") (module_name w m))
  reprs_seen deeper h (seen.BuiltIn b) = says (in_angles (codes "builtin ") (name_of b))
  reprs_seen deeper h a = says (atom_text a)

  pub reprs : (levels : ℕ) (x : Value) → Kept q (repr w levels x)
  reprs zero x = q.bind (looks q x) (reprs_seen None tt)
  reprs (suc levels) x = q.bind (looks q x) (reprs_seen (Some (repr w levels)) (reprs levels))

  -- ---- `str`

  pub args_said : (is_key_error : Bool) (text other : Writer) → KeptWriter text → KeptWriter other → (xs : List Value) → Kept q (args_text w is_key_error text other xs)
  args_said b (Some text) (Some other) ht ho [] = q.gives []
  args_said true (Some text) (Some other) ht ho (x ∷ []) = ht x
  args_said false (Some text) (Some other) ht ho (x ∷ []) = ho x
  args_said true (Some text) (Some other) ht ho (x ∷ y ∷ xs) = says_between (codes "(") (codes ")") (items_kept ht (x ∷ y ∷ xs))
  args_said false (Some text) (Some other) ht ho (x ∷ y ∷ xs) = says_between (codes "(") (codes ")") (items_kept ht (x ∷ y ∷ xs))
  args_said b _ _ ht ho xs = raises q kind.RecursionError

  pub strs_of_instance : (text other : Writer) → KeptWriter text → KeptWriter other → (a : Seen) (c : ClassId) (slots : List (Option Value)) → Kept q (instance_str w text other a c slots)
  strs_of_instance text other ht ho a c slots = chosen q (is_exception w c) (args_said _ text other ht ho (args_in slots)) (reprs_seen text ht a)

  pub strs_seen : (text other : Writer) → KeptWriter text → KeptWriter other → (a : Seen) → Kept q (seen_str w text other a)
  strs_seen text other ht ho (seen.Points t) = says t
  strs_seen text other ht ho (seen.Instance h n c slots) = strs_of_instance text other ht ho (seen.Instance h n c slots) c slots
  strs_seen text other ht ho a = reprs_seen text ht a

  pub strs : (levels : ℕ) (x : Value) → Kept q (str w levels x)
  strs zero x = q.bind (looks q x) (strs_seen None None tt tt)
  strs (suc levels) x = q.bind (looks q x) (strs_seen (Some (repr w levels)) (Some (str w levels)) (reprs levels) (strs levels))
