use Rattle.std.proofs.Common.{arith}
use Rattle.symbols.proofs.Arguments.{takes_none_some}
use Rattle.symbols.proofs.special.takes_none.Goals as goal

pub returns-in_default : goal.returns-in_default
returns-in_default c = takes_none_some c.args.args.now c.args.keys.now (omega arith)
