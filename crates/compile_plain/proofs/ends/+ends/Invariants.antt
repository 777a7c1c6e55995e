use Rattle.std.proofs.Common.{◌≡◌, drop}
use Rattle.py_tree.specs.Joined.{expressions_of, keywords_of, pairs_of}
use Rattle.compile_plain.specs.Expressions.{exprs_end, keywords_end, pairs_end}
use Rattle.compile_plain.specs.Scopes.{names_of}
use Rattle.compile_plain.proofs.ends.+ends.Given as goal

abbrev pub invariant-end_of_all-loop-item : goal.invariant-end_of_all-loop-item
invariant-end_of_all-loop-item l = exprs_end (names_of l.scope) l.end (expressions_of (drop l.item-index l.items)) ≡ exprs_end (names_of l.scope) l.place (expressions_of l.items)

abbrev pub invariant-end_of_pairs-loop-pair : goal.invariant-end_of_pairs-loop-pair
invariant-end_of_pairs-loop-pair l = pairs_end (names_of l.scope) l.end (pairs_of (drop l.pair-index l.pairs)) ≡ pairs_end (names_of l.scope) l.place (pairs_of l.pairs)

abbrev pub invariant-end_of_keywords-loop-key : goal.invariant-end_of_keywords-loop-key
invariant-end_of_keywords-loop-key l = keywords_end (names_of l.scope) l.end (keywords_of (drop l.key-index l.keys)) ≡ keywords_end (names_of l.scope) l.place (keywords_of l.keys)
