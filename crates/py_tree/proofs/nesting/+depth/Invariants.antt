use Rattle.std.proofs.Common.{◌≡◌, min, max, drop}
use Rattle.py_tree.specs.Joined.{expressions_of, keywords_of, pairs_of}
use Rattle.py_tree.specs.Nesting as spec
use Rattle.py_tree.proofs.nesting.+depth.Given as goal

abbrev pub invariant-deepest-loop-item : goal.invariant-deepest-loop-item
invariant-deepest-loop-item l =
    max l.most (min (spec.deepest (expressions_of (drop l.item-index l.items))) 4294967295) ≡ min (spec.deepest (expressions_of l.items)) 4294967295

abbrev pub invariant-deepest_keyword-loop-keyword : goal.invariant-deepest_keyword-loop-keyword
invariant-deepest_keyword-loop-keyword l =
    max l.most (min (spec.deepest_keyword (keywords_of (drop l.keyword-index l.keywords))) 4294967295) ≡ min (spec.deepest_keyword (keywords_of l.keywords)) 4294967295

abbrev pub invariant-deepest_pair-loop-pair : goal.invariant-deepest_pair-loop-pair
invariant-deepest_pair-loop-pair l =
    max l.most (min (spec.deepest_pair (pairs_of (drop l.pair-index l.pairs))) 4294967295) ≡ min (spec.deepest_pair (pairs_of l.pairs)) 4294967295
