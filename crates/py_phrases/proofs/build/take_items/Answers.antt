use Rattle.std.proofs.Common.{reverse}
use Rattle.py_tree.specs.Syntax as x
use Rattle.py_phrases.specs.Emitted.{take_items}
use Rattle.py_phrases.specs.Stacks.{trees_of}
use Rattle.py_phrases.proofs.Taking.{items_loop}
use Rattle.py_phrases.proofs.build.take_items.Goals as goal

pub loop-preserved : goal.loop-preserved
loop-preserved c =
    items_loop c.args.count c.loop.counter c.loop.items.items c.push.new.self.items c.in-Some.item (reverse c.loop.trees.items) (reverse c.take_top.new.trees.items)
    (take_items c.args.count x.end_of_expressions (trees_of c.args.trees.now.items)) c.loop-test.true c.in-Some.ensures.top c.in-Some.ensures.rest c.in_ok-push-in-Some.ensures.items c.loop.invariant
