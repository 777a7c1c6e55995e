use Rattle.py_blocks.specs.Views.{block_of}
use Rattle.py_blocks.proofs.Frames.{whole_answer}
use Rattle.py_blocks.proofs.builder.body_of.Goals as goal

pub returns : goal.returns
returns c = whole_answer c.settled.result (block_of c.args.block) c.settled.ensures
