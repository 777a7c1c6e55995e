use Rattle.std.proofs.Common.{◌≡◌, ◌++◌, drop}
use Rattle.py_tree.specs.Joined.{keywords_of}
use Rattle.compile_plain.specs.Expressions.{keyword_names}
use Rattle.compile_plain.proofs.exprs.spellings_of.Given as goal

abbrev pub invariant-loop-key : goal.invariant-loop-key
invariant-loop-key l = l.names ++ keyword_names (keywords_of (drop l.key-index l.keys)) ≡ keyword_names (keywords_of l.keys)
