-- One number more.
use Rattle.std.proofs.Common.{◌≡◌, ◌+◌, ℕ, arith, subst, sym}
use Rattle.symbols.specs.ClassOrders.{IsOrder}
use Rattle.symbols.proofs.ClassNumbers.{order-push}
use Rattle.symbols.proofs.class_order.numbers.Goals as goal

pub loop-number-preserved : goal.loop-number-preserved
loop-number-preserved c = subst (IsOrder (c.loop-number.number + 1)) (sym c.in_ok-push.ensures.items) (order-push c.loop-number.number c.loop-number.all.items c.loop-number.invariant)

pub returns : goal.returns
returns c = let last : c.loop-number.number ≡ c.args.count = omega arith in subst (λ (n : ℕ). IsOrder n c.loop-number.all.items) last c.loop-number.invariant
