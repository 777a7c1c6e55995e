use Rattle.std.proofs.Common.{◌≡◌, ◌≤◌, drop, length}
use Rattle.key_map.specs.Keys.{keys_of}
use Rattle.key_map.specs.Order.{order_of_items}
use Rattle.key_map.proofs.order.+compare.Given as goal

abbrev pub invariant-compare_items-loop-place : goal.invariant-compare_items-loop-place
invariant-compare_items-loop-place l =
    record {
      within : l.place ≤ length l.b;
      rest : order_of_items (keys_of (drop l.place l.a)) (keys_of (drop l.place l.b)) ≡ order_of_items (keys_of l.a) (keys_of l.b);
    }
