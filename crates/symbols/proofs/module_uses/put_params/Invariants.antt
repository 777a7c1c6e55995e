use Rattle.std.proofs.Common.{◌≡◌, ◌++◌, drop, map}
use Rattle.std.specs.List.{flat_map}
use Rattle.py_tree.specs.Joined.{param_of}
use Rattle.symbols.specs.Contexts.{context_of}
use Rattle.symbols.specs.StaticUses as spec
use Rattle.symbols.proofs.module_uses.put_params.Given as goal

abbrev pub invariant-loop-param : goal.invariant-loop-param
invariant-loop-param l = l.all ++ flat_map (spec.param_uses (context_of l.context) l.line) (map param_of (drop l.param-index l.params)) ≡ l.initial.all ++ flat_map (spec.param_uses (context_of l.context) l.line) (map param_of l.params)
