use Rattle.py_blocks.proofs.SomeModule.{some_module}
use Rattle.py_blocks.proofs.laws.every_rows.Goals as goal

pub returns : goal.returns
returns c = some_module
