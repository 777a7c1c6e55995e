use Rattle.std.proofs.Common.{◌≡◌, drop}
use Rattle.key_map.specs.Keys as spec
use Rattle.key_map.specs.Keys.{keys_of}
use Rattle.key_map.proofs.same.+are_same.Given as goal

abbrev pub invariant-all_same-loop-place : goal.invariant-all_same-loop-place
invariant-all_same-loop-place l = spec.all_same (keys_of (drop l.place l.a)) (keys_of (drop l.place l.b)) ≡ spec.all_same (keys_of l.a) (keys_of l.b)
