use Rattle.std.proofs.Common.{rules, ◌<◌, length, ap, ◌∙◌}
use Rattle.heap_seg.specs.Globals.{with_value}
use Rattle.heap_seg.proofs.Places.{bound_at}
use Rattle.heap_seg.proofs.globals.Globals.set.Goals as goal

pub returns : goal.returns
returns c =
    let there : c.args.place < length c.self.inside.rows.items = search rules in
    record { bound = bound_at c.self.inside.rows.items c.args.place c.index_mut.result.now c.args.value there c.index_mut.ensures.value ∙ ap (λ gs. with_value gs c.args.place c.args.value) c.self.view_is }
