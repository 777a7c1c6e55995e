-- One binding on.
use Rattle.std.proofs.Common.{◌+◌, drop}
use Rattle.module_load.proofs.Held.{at_binding, further}
use Rattle.module_load.proofs.deciding.module_names.Goals as goal

pub loop-binding-preserved : goal.loop-binding-preserved
loop-binding-preserved c =
    let bindings = c.args.bindings.now in
    let k = c.loop-binding.binding-index in
    let here = at_binding bindings c.loop-binding.names k c.binding-item.result c.loop-binding-test.true c.binding-item.is c.loop-binding.invariant in
    further bindings (drop (k + 1) bindings) c.loop-binding.names _ c.binding-item.result c.in_ok-put_module.ensures here
