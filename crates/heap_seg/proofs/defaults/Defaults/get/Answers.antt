use Rattle.std.proofs.Common.{◌∙◌}
use Rattle.heap_seg.proofs.Rows.{found}
use Rattle.heap_seg.proofs.defaults.Defaults.get.Goals as goal

pub returns : goal.returns
returns c =
    record { value = c.copied.ensures ∙ c.get.ensures.value ∙ found (record { function = c.args.function; number = c.args.param }) c.args.self.now.values.entries }
