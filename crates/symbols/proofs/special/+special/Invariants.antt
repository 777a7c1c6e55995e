use Rattle.std.proofs.Common.{◌≡◌, drop}
use Rattle.py_tree.specs.Joined.{expressions_of, keywords_of, pairs_of}
use Rattle.symbols.specs.Contexts.{context_of}
use Rattle.symbols.specs.SpecialNames.{all_special_in, arguments_special, keywords_special, pairs_special}
use Rattle.symbols.proofs.special.+special.Given as goal

abbrev pub invariant-any_faulty-loop-item : goal.invariant-any_faulty-loop-item
invariant-any_faulty-loop-item l = all_special_in (context_of l.context) l.around (expressions_of (drop l.item-index l.items)) ≡ all_special_in (context_of l.context) l.around (expressions_of l.items)

abbrev pub invariant-any_argument_faulty-loop-arg : goal.invariant-any_argument_faulty-loop-arg
invariant-any_argument_faulty-loop-arg l = arguments_special l.here (context_of l.context) l.around (expressions_of (drop l.arg-index l.args)) ≡ arguments_special l.fn.first (context_of l.context) l.around (expressions_of l.args)

abbrev pub invariant-any_pair_faulty-loop-pair : goal.invariant-any_pair_faulty-loop-pair
invariant-any_pair_faulty-loop-pair l = pairs_special (context_of l.context) l.around (pairs_of (drop l.pair-index l.pairs)) ≡ pairs_special (context_of l.context) l.around (pairs_of l.pairs)

abbrev pub invariant-any_keyword_faulty-loop-key : goal.invariant-any_keyword_faulty-loop-key
invariant-any_keyword_faulty-loop-key l = keywords_special (context_of l.context) l.around (keywords_of (drop l.key-index l.keys)) ≡ keywords_special (context_of l.context) l.around (keywords_of l.keys)
