use Rattle.std.proofs.Common.{arith}
use Rattle.symbols.proofs.Arguments.{has_none_some}
use Rattle.symbols.proofs.special.has_none.Goals as goal

pub returns-in_default : goal.returns-in_default
returns-in_default c = has_none_some c.args.keys.now (omega arith)
