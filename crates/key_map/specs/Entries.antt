-- A dictionary as the list of its entries, in the order in which their keys were put.
use Rattle.std.specs.Prelude.{◌≡◌, ℕ, slice_get, if◌then◌else◌, List, [], ◌∷◌, map, Option, Some, None}
use Rattle.key_map.specs.Keys.{Key, same, key_of}
use Rattle.key_map.specs.declared.key.Key as declared
use Rattle.key_map.specs.declared.map.KeyMap.{KeyMap}
use Rattle.key_map.specs.declared.map.Row.{Row}

pub record Entry (S V : Type 0) : Type 0 where
  pub key : Key
  pub shown : S  -- the key as it was put first
  pub value : V

-- a key that is there keeps its place and its shown form and takes the value; another goes to the end
abbrev pub put_entry : {S V : Type 0} → Key → S → V → List (Entry S V) → List (Entry S V)
put_entry k s x [] = record { key = k; shown = s; value = x } ∷ []
put_entry k s x (e ∷ es) = if same k e.key then record e { value = x } ∷ es else e ∷ put_entry k s x es

abbrev pub find_entry : {S V : Type 0} → Key → List (Entry S V) → Option V
find_entry k [] = None
find_entry k (e ∷ es) = if same k e.key then Some e.value else find_entry k es

abbrev pub keys_in : {S V : Type 0} → List (Entry S V) → List Key
keys_in es = map (λ e. e.key) es

-- at that place stands an entry with this shown form and value
abbrev pub IsEntry : {S V : Type 0} → List (Entry S V) → ℕ → S → V → Type 0
IsEntry {S} {V} es place shown value = (e : Entry S V) × (slice_get es place ≡ Some e) × (e.shown ≡ shown) × (e.value ≡ value)

-- from the dictionary of the program

abbrev pub entry_of : {S V : Type 0} → declared.Key × Row S V → Entry S V
entry_of e = record { key = key_of e.0; shown = e.1.shown; value = e.1.value }

abbrev pub entries : {S V : Type 0} → KeyMap S V → List (Entry S V)
entries m = map entry_of m.rows.entries
