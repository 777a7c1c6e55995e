-- What steps meet is met by the methods of texts, lists and dictionaries.
use Rattle.std.specs.Prelude.{ℕ, List, [], ◌∷◌, ◌++◌, map, Option, Some}
use Rattle.py_tree.specs.Syntax.{Text}
use Rattle.py_values.specs.declared.builtin.Builtin.{Builtin}
use Rattle.py_values.specs.declared.builtin.Builtin.TheVariants as method
use Rattle.py_values.specs.declared.exception.ExcKind.TheVariants as kind
use Rattle.py_values.specs.declared.value.Home.{Home}
use Rattle.key_map.specs.Entries.{Entry, put_entry}
use Rattle.atom_ops.specs.Operators as op
use Rattle.gradual_types.specs.Values as v
use Rattle.gradual_types.specs.Values.{Value}
use Rattle.py_meaning.specs.Modules.{World}
use Rattle.py_meaning.specs.Looks as seen
use Rattle.py_meaning.specs.Looks.{Seen, home_of}
use Rattle.py_meaning.specs.Operands.{operand}
use Rattle.py_meaning.specs.Iterables.{shown_keys}
use Rattle.py_meaning.specs.Methods.{text_in, texts_of, pieces, join, split, text_result, put_behind, append_all, list_result, put_key, put_pairs, pairs_in, values_in, pair_value, update, listed, dict_result, result_of, method_result, ask_for}
use Rattle.py_meaning.proofs.Steps.{Steps, Kept, seq, raises, errs, or_raises, asks, looks, sees, may_write_at_kept}
use Rattle.py_meaning.proofs.StepsOfOperators.{tables, keys}
use Rattle.py_meaning.proofs.StepsOfLoops.{gathers}

module _ {w : World} (q : Steps w) where
  -- ---- texts

  pub texts : (xs : List Value) → Kept q (texts_of w xs)
  texts [] = q.gives []
  texts (x ∷ xs) = q.bind (looks q x) (λ a. q.bind (or_raises q kind.TypeError (text_in a)) (λ text. q.bind (texts xs) (λ rest. q.gives _)))

  pub text_joins : (between : Text) (x : Value) → Kept q (join w between x)
  text_joins between x = q.bind (gathers q x) (λ items. q.bind (texts items) (λ all. q.bind (q.pays _) (λ a. q.gives _)))

  pub splits : (text : Text) (a : Seen) → Kept q (split w text a)
  splits text (seen.Points []) = raises q kind.ValueError
  splits text (seen.Points (point ∷ part)) = seq q (q.pays _) (q.makes (v.Listed (map v.Points (pieces (point ∷ part) 0 [] text))))
  splits text _ = errs q

  pub text_results : (text : Text) (b : Builtin) (args : List Value) → Kept q (text_result w text b args)
  text_results text method.TextJoin (x ∷ []) = text_joins text x
  text_results text method.TextSplit (x ∷ []) = q.bind (looks q x) (splits text)
  text_results text method.TextStartsWith (x ∷ []) = q.bind (looks q x) (λ a. tables q (op.Call op.StartsWith (operand (seen.Points text) ∷ operand a ∷ [])))
  text_results text method.TextEndsWith (x ∷ []) = q.bind (looks q x) (λ a. tables q (op.Call op.EndsWith (operand (seen.Points text) ∷ operand a ∷ [])))
  text_results text _ _ = errs q

  -- ---- lists

  pub puts_behind : (h : Home) (n : ℕ) (more : List Value) (a : Seen) → Kept q (put_behind w h n more a)
  puts_behind h n more (seen.Listed i m vs) = q.writes h n (v.Listed (vs ++ more))
  puts_behind h n more other = q.gives tt

  pub appends : (h : Home) (n : ℕ) (more : List Value) → Kept q (append_all w h n more)
  appends h n more = seq q (q.bind (sees q h n) (puts_behind h n more)) (q.gives v.Nil)

  pub list_results : (h : Home) (n : ℕ) (vs : List Value) (b : Builtin) (args : List Value) → Kept q (list_result w h n vs b args)
  list_results h n vs method.ListAppend (x ∷ []) = appends h n (x ∷ [])
  list_results h n vs method.ListExtend (x ∷ []) = q.bind (gathers q x) (appends h n)
  list_results h n vs method.ListCopy [] = seq q (q.pays _) (q.makes (v.Listed vs))
  list_results h n vs _ _ = errs q

  -- ---- dictionaries

  pub puts_key : (h : Home) (n : ℕ) (key value : Value) (a : Seen) → Kept q (put_key w h n key value a)
  puts_key h n key value (seen.Mapped i m es) = q.bind (keys q key) (λ found. q.writes h n (v.Mapped (put_entry found.0 found.1 value es)))
  puts_key h n key value other = q.gives tt

  pub puts_pairs : (h : Home) (n : ℕ) (pairs : List (Value × Value)) → Kept q (put_pairs w h n pairs)
  puts_pairs h n [] = q.gives tt
  puts_pairs h n (pair ∷ pairs) = seq q (q.bind (sees q h n) (puts_key h n pair.0 pair.1)) (puts_pairs h n pairs)

  pub updates : (h : Home) (n : ℕ) (a : Seen) → Kept q (update w h n a)
  updates h n (seen.Mapped i m es) = seq q (seq q (q.pays _) (puts_pairs h n (pairs_in es))) (q.gives v.Nil)
  updates h n other = errs q

  pub lists : (vs : List Value) → Kept q (listed w vs)
  lists vs = seq q (q.pays _) (q.makes (v.Listed vs))

  pub dict_results : (h : Home) (n : ℕ) (es : List (Entry Value Value)) (b : Builtin) (args : List Value) → Kept q (dict_result w h n es b args)
  dict_results h n es method.DictGet (key ∷ []) = q.bind (keys q key) (λ found. q.gives _)
  dict_results h n es method.DictGet (key ∷ other ∷ []) = q.bind (keys q key) (λ found. q.gives _)
  dict_results h n es method.DictKeys [] = lists (shown_keys es)
  dict_results h n es method.DictValues [] = lists (values_in es)
  dict_results h n es method.DictItems [] = lists (map pair_value (pairs_in es))
  dict_results h n es method.DictCopy [] = seq q (q.pays _) (q.makes (v.Mapped es))
  dict_results h n es method.DictUpdate (x ∷ []) = q.bind (looks q x) (updates h n)
  dict_results h n es _ _ = errs q

  -- ---- all of them

  pub results : (b : Builtin) (args : List Value) (a : Seen) → Kept q (result_of w b args a)
  results b args (seen.Points text) = text_results text b args
  results b args (seen.Listed h n vs) = list_results h n vs b args
  results b args (seen.Mapped h n es) = dict_results h n es b args
  results b args other = errs q

  pub method_results : (receiver : Value) (b : Builtin) (args : List Value) → Kept q (method_result w receiver b args)
  method_results receiver b args = q.bind (looks q receiver) (results b args)

  pub asks_for : (b : Builtin) (receiver : Option Value) → Kept q (ask_for w b receiver)
  asks_for method.Print receiver = asks q w.mode.on_print
  asks_for method.ListAppend (Some receiver) = may_write_at_kept q (home_of receiver)
  asks_for method.ListExtend (Some receiver) = may_write_at_kept q (home_of receiver)
  asks_for method.DictUpdate (Some receiver) = may_write_at_kept q (home_of receiver)
  asks_for _ _ = q.gives tt
