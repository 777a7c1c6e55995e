use Rattle.symbols.specs.ClassOrders.{IsOrder}
use Rattle.symbols.proofs.class_order.numbers.Given as goal

abbrev pub invariant-loop-number : goal.invariant-loop-number
invariant-loop-number l = IsOrder l.number l.all.items
