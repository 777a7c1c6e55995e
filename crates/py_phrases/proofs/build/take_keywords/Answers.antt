use Rattle.py_tree.specs.Syntax as x
use Rattle.py_tree.specs.Joined.{pair_of}
use Rattle.py_phrases.specs.Emitted.{take_keywords}
use Rattle.py_phrases.specs.Stacks.{trees_of}
use Rattle.py_phrases.proofs.Taking.{keywords_loop}
use Rattle.py_phrases.proofs.build.take_keywords.Goals as goal

pub loop-preserved : goal.loop-preserved
loop-preserved c =
    keywords_loop c.args.count c.loop.counter c.loop.keywords.items c.push.new.self.items c.keyword.result (pair_of c.in-Some.pair) (trees_of c.loop.trees.items) (trees_of c.take_pair.new.trees.items)
    (take_keywords c.args.count x.end_of_keywords (trees_of c.args.trees.now.items)) c.loop-test.true c.in-Some.ensures.pair c.in-Some.ensures.below c.keyword.ensures c.in_ok-push-in-Some.ensures.items c.loop.invariant
