-- One binding on.
use Rattle.symbols.specs.Names.{found}
use Rattle.symbols.proofs.Again.{repeats_push}
use Rattle.symbols.proofs.repeats.repeats_in.Goals as goal

pub loop-binding-preserved : goal.loop-binding-preserved
loop-binding-preserved c =
    repeats_push c.args.bindings.now c.loop-binding.binding-index c.binding-item.result (found c.loop-binding.repeats) (found c.put.new.self) c.get-known.result c.with.result
    c.loop-binding-test.true c.binding-item.is c.loop-binding.invariant c.get-known.ensures c.with.ensures c.in_ok-put.ensures.found
