-- One fault on.
use Rattle.std.proofs.Common.{take, sym, subst}
use Rattle.std.proofs.lemmas.List.{take_more}
use Rattle.symbols.specs.Faults.{IsFirst}
use Rattle.symbols.proofs.first_fault.first_of.Goals as goal

pub loop-fault-preserved : goal.loop-fault-preserved
loop-fault-preserved c =
    let before = take c.loop-fault.fault-index c.args.faults.now in
    subst (λ faults. IsFirst faults c.earlier.result) (sym (take_more c.args.faults.now c.loop-fault.fault-index _ c.loop-fault-test.true)) (c.earlier.ensures before c.loop-fault.invariant)
