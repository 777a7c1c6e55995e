use Rattle.std.proofs.Common.{◌≡◌, ◌++◌, drop}
use Rattle.py_tree.specs.Joined.{expressions_of, keywords_of, pairs_of}
use Rattle.compile_plain.specs.Expressions.{exprs_code, exprs_end, keywords_code, keywords_end, pairs_code, pairs_end}
use Rattle.compile_plain.specs.Scopes.{names_of}
use Rattle.compile_plain.proofs.exprs.+exprs.Given as goal

abbrev pub invariant-put_exprs-loop-item : goal.invariant-put_exprs-loop-item
invariant-put_exprs-loop-item l =
    (l.block.cells ++ exprs_code (names_of l.site.scope.now) l.site.targets.raised l.block.end (expressions_of (drop l.item-index l.items)) ≡ l.initial.block.cells ++ exprs_code (names_of l.site.scope.now) l.site.targets.raised l.initial.block.end (expressions_of l.items))
    × (exprs_end (names_of l.site.scope.now) l.block.end (expressions_of (drop l.item-index l.items)) ≡ exprs_end (names_of l.site.scope.now) l.initial.block.end (expressions_of l.items))

abbrev pub invariant-put_pairs-loop-pair : goal.invariant-put_pairs-loop-pair
invariant-put_pairs-loop-pair l =
    (l.block.cells ++ pairs_code (names_of l.site.scope.now) l.site.targets.raised l.block.end (pairs_of (drop l.pair-index l.pairs)) ≡ l.initial.block.cells ++ pairs_code (names_of l.site.scope.now) l.site.targets.raised l.initial.block.end (pairs_of l.pairs))
    × (pairs_end (names_of l.site.scope.now) l.block.end (pairs_of (drop l.pair-index l.pairs)) ≡ pairs_end (names_of l.site.scope.now) l.initial.block.end (pairs_of l.pairs))

abbrev pub invariant-put_keywords-loop-key : goal.invariant-put_keywords-loop-key
invariant-put_keywords-loop-key l =
    (l.block.cells ++ keywords_code (names_of l.site.scope.now) l.site.targets.raised l.block.end (keywords_of (drop l.key-index l.keys)) ≡ l.initial.block.cells ++ keywords_code (names_of l.site.scope.now) l.site.targets.raised l.initial.block.end (keywords_of l.keys))
    × (keywords_end (names_of l.site.scope.now) l.block.end (keywords_of (drop l.key-index l.keys)) ≡ keywords_end (names_of l.site.scope.now) l.initial.block.end (keywords_of l.keys))
