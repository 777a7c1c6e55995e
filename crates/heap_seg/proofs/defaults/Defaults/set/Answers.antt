use Rattle.std.proofs.Common.{ap, ◌∙◌, map}
use Rattle.heap_seg.specs.Defaults.{row_of}
use Rattle.heap_seg.proofs.Rows.{set}
use Rattle.heap_seg.proofs.defaults.Defaults.set.Goals as goal

pub returns-clause-ok : goal.returns-clause-ok
returns-clause-ok c =
    ap (map row_of) c.in_ok-insert.ensures.entries ∙ set (record { function = c.args.function; number = c.args.param }) c.args.value c.args.self.now.values.entries
