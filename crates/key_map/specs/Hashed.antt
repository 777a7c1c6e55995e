-- No definition of the language: what a hasher is given of a key.
use Rattle.std.specs.Prelude.{ℕ, ◌+◌, List, [], ◌++◌}
use Rattle.std.specs.Hash as fed
use Rattle.key_map.specs.Keys.{Key, Keys, Nil, Int, Text, Tuple, end_of_keys, more_keys}

abbrev pub count : Keys → ℕ
count end_of_keys = 0
count (more_keys k ks) = count ks + 1

abbrev mutual
  pub writes : Key → List (List ℕ)
  writes Nil = fed.u8 0
  writes (Int n) = fed.i64 n
  writes (Text text) = fed.slice fed.char text
  writes (Tuple ks) = fed.usize (count ks) ++ all_writes ks

  pub all_writes : Keys → List (List ℕ)
  all_writes end_of_keys = []
  all_writes (more_keys k ks) = writes k ++ all_writes ks
