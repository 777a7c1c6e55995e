-- The keys that tuples stand for.
use Rattle.std.proofs.Common.{◌≡◌, List, sym, ap, ◌∙◌}
use Rattle.key_map.specs.declared.key.Key as declared
use Rattle.key_map.specs.declared.key.Key.{fold-roll-Key}
use Rattle.key_map.specs.declared.key.Key.TheOpen as K
use Rattle.key_map.specs.declared.key.Key.TheVariants as variant
use Rattle.key_map.specs.Keys.{Key, Tuple, key_of, keys_of, key_step}

pub tuple_is : (items : List declared.Key) → key_of (declared.Tuple items) ≡ Tuple (keys_of items)
tuple_is items = ap key_of (sym (variant.rolls-Tuple items)) ∙ fold-roll-Key Key key_step (K.Tuple items)
