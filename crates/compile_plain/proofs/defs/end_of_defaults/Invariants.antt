use Rattle.std.proofs.Common.{◌≡◌, drop, map}
use Rattle.py_tree.specs.Joined.{param_of}
use Rattle.compile_plain.specs.Definitions.{defaults_end}
use Rattle.compile_plain.specs.Scopes.{names_of}
use Rattle.compile_plain.proofs.defs.end_of_defaults.Given as goal

abbrev pub invariant-loop-param : goal.invariant-loop-param
invariant-loop-param l = defaults_end (names_of l.scope) l.end (map param_of (drop l.param-index l.params)) ≡ defaults_end (names_of l.scope) l.place (map param_of l.params)
