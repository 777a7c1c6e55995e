use Rattle.atom_ops.proofs.OneQuotient.{floored_everywhere}
use Rattle.atom_ops.proofs.laws.one_floored_quotient.Goals as goal

pub returns : goal.returns
returns c = floored_everywhere
