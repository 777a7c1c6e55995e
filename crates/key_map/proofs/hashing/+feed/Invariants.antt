use Rattle.std.proofs.Common.{◌≡◌, fold, drop}
use Rattle.key_map.specs.Keys.{keys_of}
use Rattle.key_map.specs.Hashed.{all_writes}
use Rattle.key_map.proofs.hashing.+feed.Given as goal

abbrev pub invariant-feed_all-loop-key : goal.invariant-feed_all-loop-key
invariant-feed_all-loop-key g l =
    fold g.H.Hasher.write l.state (all_writes (keys_of (drop l.key-index l.keys))) ≡ fold g.H.Hasher.write l.fn.state (all_writes (keys_of l.keys))
