use Rattle.std.proofs.Common.{rules}
use Rattle.symbols.proofs.Descents.{last_clashes-get}
use Rattle.symbols.proofs.lineage.last_clashes.Goals as goal

pub returns-in-Some : goal.returns-in-Some
returns-in-Some c = last_clashes-get c.args.steps.now c.in-Some.step.now (search rules)
