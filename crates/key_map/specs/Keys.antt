-- Keys, as plain data, and which are the same.
use Rattle.std.specs.Prelude.{ℕ, ℤ, Bool, true, false, ◌&&◌, List, [], ◌∷◌, map}
use Rattle.std.specs.Ordering.{int_eq}
use Rattle.std.specs.Str.{bytes_eq}
use Rattle.key_map.specs.declared.key.Key as declared
use Rattle.key_map.specs.declared.key.Key.TheOpen as K
use Rattle.key_map.specs.declared.key.Key.TheFolds.{fold-Key}

mutual
  pub data Key : Type 0 where
    Nil : Key
    Int : ℤ → Key
    Text : List ℕ → Key
    Tuple : Keys → Key

  pub data Keys : Type 0 where
    end_of_keys : Keys
    more_keys : Key → Keys → Keys

abbrev pub keys : List Key → Keys
keys [] = end_of_keys
keys (k ∷ ks) = more_keys k (keys ks)

-- the key that a key of the program stands for

abbrev pub key_step : K.Key-F Key → Key
key_step K.Nil = Nil
key_step (K.Int n) = Int n
key_step (K.Str text) = Text text
key_step (K.Tuple items) = Tuple (keys items)

abbrev pub key_of : declared.Key → Key
key_of = fold-Key Key key_step

abbrev pub keys_of : List declared.Key → Keys
keys_of ks = keys (map key_of ks)

-- ---- which are the same

abbrev mutual
  pub same : Key → Key → Bool
  same Nil Nil = true
  same (Int a) (Int b) = int_eq a b
  same (Text a) (Text b) = bytes_eq a b
  same (Tuple a) (Tuple b) = all_same a b
  same _ _ = false

  pub all_same : Keys → Keys → Bool
  all_same end_of_keys end_of_keys = true
  all_same (more_keys a ks) (more_keys b ls) = same a b && all_same ks ls
  all_same _ _ = false
