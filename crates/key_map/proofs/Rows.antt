-- The entries of a dictionary, by the rows that it keeps.
use Rattle.std.proofs.Common.{◌≡◌, ℕ, Bool, true, false, if◌then◌else◌, List, [], ◌∷◌, map, Option, Some, None, refl, sym, ap, ◌∙◌, slice_get}
use Rattle.std.specs.List.{IsDistinct, AllByRecursion}
use Rattle.std.specs.Option.{option_map}
use Rattle.std.specs.Map.{lookup, set_value}
use Rattle.std.proofs.lemmas.Option.{slice_get-map}
use Rattle.indexmap.specs.IndexMap.{insert_entry}
use Rattle.key_map.specs.declared.key.Key as declared
use Rattle.key_map.specs.declared.map.Row.{Row}
use Rattle.key_map.specs.Keys.{Key, same, key_of}
use Rattle.key_map.specs.Entries.{Entry, IsEntry, entry_of, keys_in, find_entry, put_entry}

abbrev pub test : declared.Key → declared.Key → Bool
test k other = same (key_of k) (key_of other)

abbrev pub value_of : {S V : Type 0} → Row S V → V
value_of r = r.value

pub found : {S V : Type 0} (k : declared.Key) (es : List (declared.Key × Row S V)) → option_map value_of (lookup (test k) es) ≡ find_entry (key_of k) (map entry_of es)
found k [] = refl
found k (e ∷ es) = by (test k e.0) (found k es) where
  by : (b : Bool) → option_map value_of (lookup (test k) es) ≡ find_entry (key_of k) (map entry_of es)
      → option_map value_of (if b then Some e.1 else lookup (test k) es) ≡ (if b then Some e.1.value else find_entry (key_of k) (map entry_of es))
  by true h = refl
  by false h = h

pub put_there : {S V : Type 0} (k : declared.Key) (s : S) (x : V) (es : List (declared.Key × Row S V)) (r : Row S V) → lookup (test k) es ≡ Some r
    → map entry_of (set_value (test k) es (record r { value = x })) ≡ put_entry (key_of k) s x (map entry_of es)
put_there k s x [] r h = absurd cc
put_there k s x (e ∷ es) r h = by (test k e.0) (put_there k s x es r) h where
  by : (b : Bool) → (lookup (test k) es ≡ Some r → map entry_of (set_value (test k) es (record r { value = x })) ≡ put_entry (key_of k) s x (map entry_of es))
      → (if b then Some e.1 else lookup (test k) es) ≡ Some r
      → map entry_of (if b then (e.0, record r { value = x }) ∷ es else e ∷ set_value (test k) es (record r { value = x }))
      ≡ (if b then record (entry_of e) { value = x } ∷ map entry_of es else entry_of e ∷ put_entry (key_of k) s x (map entry_of es))
  by true rest h = let same_row : r ≡ e.1 = cc in ap (λ z. record { key = key_of e.0; shown = z.shown; value = x } ∷ map entry_of es) same_row
  by false rest h = ap (λ z. entry_of e ∷ z) (rest h)

pub put_new : {S V : Type 0} (k : declared.Key) (s : S) (x : V) (es : List (declared.Key × Row S V)) → lookup (test k) es ≡ None
    → map entry_of (insert_entry test es k (record { shown = s; value = x })) ≡ put_entry (key_of k) s x (map entry_of es)
put_new k s x [] h = refl
put_new k s x (e ∷ es) h = by (test k e.0) (put_new k s x es) h where
  by : (b : Bool) → (lookup (test k) es ≡ None → map entry_of (insert_entry test es k (record { shown = s; value = x })) ≡ put_entry (key_of k) s x (map entry_of es))
      → (if b then Some e.1 else lookup (test k) es) ≡ None
      → map entry_of (if b then (e.0, record { shown = s; value = x }) ∷ es else e ∷ insert_entry test es k (record { shown = s; value = x }))
      ≡ (if b then record (entry_of e) { value = x } ∷ map entry_of es else entry_of e ∷ put_entry (key_of k) s x (map entry_of es))
  by true rest h = absurd cc
  by false rest h = ap (λ z. entry_of e ∷ z) (rest h)

pub at_place : {S V : Type 0} (es : List (declared.Key × Row S V)) (i : ℕ) (k : declared.Key) (r : Row S V) → slice_get es i ≡ Some (k, r) → IsEntry (map entry_of es) i r.shown r.value
at_place es i k r h = (entry_of (k, r), slice_get-map entry_of es i ∙ ap (option_map entry_of) h, refl, refl)

pub past_end : {S V : Type 0} (es : List (declared.Key × Row S V)) (i : ℕ) → slice_get es i ≡ None → slice_get (map entry_of es) i ≡ None
past_end es i h = slice_get-map entry_of es i ∙ ap (option_map entry_of) h

unlike_all : {S V : Type 0} (k : declared.Key) (es : List (declared.Key × Row S V)) → AllByRecursion (λ other. test k other ≡ false) (map (λ e. e.0) es) → AllByRecursion (λ other. same (key_of k) other ≡ false) (keys_in (map entry_of es))
unlike_all k [] h = tt
unlike_all k (e ∷ es) h = (h.0, unlike_all k es h.1)

pub distinct_keys : {S V : Type 0} (es : List (declared.Key × Row S V)) → IsDistinct test (map (λ e. e.0) es) → IsDistinct same (keys_in (map entry_of es))
unfolding IsDistinct
distinct_keys [] h = tt
distinct_keys (e ∷ es) h = (unlike_all e.0 es h.0, distinct_keys es h.1)

abbrev key_in : {S V : Type 0} → Entry S V → Key
key_in e = e.key

pub key_at_place : {S V : Type 0} (es : List (declared.Key × Row S V)) (i : ℕ) (o : Option (declared.Key × Row S V)) → slice_get es i ≡ o
    → option_map key_in (option_map entry_of o) ≡ slice_get (keys_in (map entry_of es)) i
key_at_place es i o h = sym (slice_get-map key_in (map entry_of es) i ∙ ap (option_map key_in) (slice_get-map entry_of es i ∙ ap (option_map entry_of) h))
