use Rattle.std.proofs.Common.{◌≡◌, drop, map}
use Rattle.py_tree.specs.Joined.{param_of}
use Rattle.symbols.specs.Bindings.{param_names}
use Rattle.symbols.specs.Names.{with_names}
use Rattle.symbols.proofs.bound_names.add_params.Given as goal

abbrev pub invariant-loop-param : goal.invariant-loop-param
invariant-loop-param l = with_names l.names (param_names (map param_of (drop l.param-index l.params))) ≡ with_names l.initial.names (param_names (map param_of l.params))
