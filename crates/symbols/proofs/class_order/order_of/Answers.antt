-- Sorted, each number is still there.
use Rattle.std.proofs.Common.{ℕ, subst}
use Rattle.symbols.specs.ClassOrders.{IsOrder}
use Rattle.symbols.proofs.ClassNumbers.{order-permutation}
use Rattle.symbols.proofs.class_order.order_of.Goals as goal

pub returns : goal.returns
returns c = order-permutation _ c.in_ok-order.order.items c.sort_by_key.new.self.items c.in_ok-sort_by_key.ensures.permutation (subst (λ (n : ℕ). IsOrder n c.in_ok-order.order.items) c.len.ensures c.in_ok-order.ensures)
