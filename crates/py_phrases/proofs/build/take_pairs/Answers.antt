use Rattle.py_tree.specs.Syntax as x
use Rattle.py_phrases.specs.Emitted.{take_pairs}
use Rattle.py_phrases.specs.Stacks.{trees_of}
use Rattle.py_phrases.proofs.Taking.{pairs_loop}
use Rattle.py_phrases.proofs.build.take_pairs.Goals as goal

pub loop-preserved : goal.loop-preserved
loop-preserved c =
    pairs_loop c.args.count c.loop.counter c.loop.pairs.items c.push.new.self.items c.in-Some.pair (trees_of c.loop.trees.items) (trees_of c.take_pair.new.trees.items)
    (take_pairs c.args.count x.end_of_pairs (trees_of c.args.trees.now.items)) c.loop-test.true c.in-Some.ensures.pair c.in-Some.ensures.below c.in_ok-push-in-Some.ensures.items c.loop.invariant
