-- An order of keys: None, then ints, then texts by their code points, then tuples by their items.
use Rattle.std.specs.Ordering.{int_cmp, nat_cmp, ordering_then}
use Rattle.std.specs.Cmp.Lexicographic.{slice_cmp}
use Rattle.std.specs.declared.cmp.Ordering.{Ordering}
use Rattle.std.specs.declared.cmp.Ordering.TheVariants.{Less, Equal, Greater}
use Rattle.key_map.specs.Keys.{Key, Keys, Nil, Int, Text, Tuple, end_of_keys, more_keys}

abbrev mutual
  pub order : Key → Key → Ordering
  order Nil Nil = Equal
  order Nil b = Less
  order a Nil = Greater
  order (Int a) (Int b) = int_cmp a b
  order (Int a) b = Less
  order a (Int b) = Greater
  order (Text a) (Text b) = slice_cmp nat_cmp a b
  order (Text a) b = Less
  order a (Text b) = Greater
  order (Tuple ks) (Tuple ls) = order_of_items ks ls

  -- the first two items that differ decide; else the shorter tuple is below the longer
  pub order_of_items : Keys → Keys → Ordering
  order_of_items end_of_keys end_of_keys = Equal
  order_of_items end_of_keys ls = Less
  order_of_items ks end_of_keys = Greater
  order_of_items (more_keys a ks) (more_keys b ls) = ordering_then (order a b) (order_of_items ks ls)
