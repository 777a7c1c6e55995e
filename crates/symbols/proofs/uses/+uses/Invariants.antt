use Rattle.std.proofs.Common.{◌≡◌, ◌++◌, drop}
use Rattle.py_tree.specs.Joined.{expressions_of, keywords_of, pairs_of}
use Rattle.symbols.specs.Contexts.{context_of}
use Rattle.symbols.specs.StaticUses.{uses_in_all, uses_in_keywords, uses_in_pairs}
use Rattle.symbols.proofs.uses.+uses.Given as goal

abbrev pub invariant-put_all-loop-item : goal.invariant-put_all-loop-item
invariant-put_all-loop-item l = l.all ++ uses_in_all (context_of l.context) l.line (expressions_of (drop l.item-index l.items)) ≡ l.initial.all ++ uses_in_all (context_of l.context) l.line (expressions_of l.items)

abbrev pub invariant-put_pairs-loop-pair : goal.invariant-put_pairs-loop-pair
invariant-put_pairs-loop-pair l = l.all ++ uses_in_pairs (context_of l.context) l.line (pairs_of (drop l.pair-index l.pairs)) ≡ l.initial.all ++ uses_in_pairs (context_of l.context) l.line (pairs_of l.pairs)

abbrev pub invariant-put_keywords-loop-key : goal.invariant-put_keywords-loop-key
invariant-put_keywords-loop-key l = l.all ++ uses_in_keywords (context_of l.context) l.line (keywords_of (drop l.key-index l.keys)) ≡ l.initial.all ++ uses_in_keywords (context_of l.context) l.line (keywords_of l.keys)
