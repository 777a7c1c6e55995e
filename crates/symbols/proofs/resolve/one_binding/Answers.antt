use Rattle.symbols.proofs.OneBinding.{one_binding}
use Rattle.symbols.proofs.resolve.one_binding.Goals as goal

pub returns : goal.returns
returns c = λ context globals name. one_binding context globals name
