use Rattle.compile_plain.proofs.Forward.{bodies_forward}
use Rattle.compile_plain.proofs.laws.bodies_forward.Goals as goal

pub returns : goal.returns
returns c = bodies_forward
