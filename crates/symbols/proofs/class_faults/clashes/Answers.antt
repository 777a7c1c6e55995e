use Rattle.std.proofs.Common.{List, ℕ, length, subst, sym}
use Rattle.symbols.specs.ClassOrders.{IsOrder}
use Rattle.symbols.proofs.class_faults.clashes.Goals as goal

pub clashes_in-requires-clause-all : goal.clashes_in-requires-clause-all
clashes_in-requires-clause-all c = subst (λ (xs : List ℕ). IsOrder (length c.args.classes.now.own) xs) (sym c.as_slice-2.ensures.value) c.in_ok-order.ensures
