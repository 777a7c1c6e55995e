use Rattle.compile_plain.proofs.Stands.{code_stands}
use Rattle.compile_plain.proofs.laws.code_stands.Goals as goal

pub returns : goal.returns
returns c = code_stands
