use Rattle.std.proofs.Common.{◌≡◌, drop, map}
use Rattle.std.specs.List.{list_any}
use Rattle.py_tree.specs.Joined.{param_of}
use Rattle.symbols.specs.Contexts.{context_of}
use Rattle.symbols.specs.SpecialNames.{param_special}
use Rattle.symbols.proofs.special_parts.any_param_faulty.Given as goal

abbrev pub invariant-loop-param : goal.invariant-loop-param
invariant-loop-param l = list_any (param_special (context_of l.context)) (map param_of (drop l.param-index l.params)) ≡ list_any (param_special (context_of l.context)) (map param_of l.params)
