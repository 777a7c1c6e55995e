use Rattle.std.proofs.Common.{◌≡◌, ◌++◌, drop, map}
use Rattle.py_tree.specs.Joined.{param_of}
use Rattle.compile_plain.specs.Definitions.{defaults_code, defaults_end}
use Rattle.compile_plain.specs.Scopes.{names_of}
use Rattle.compile_plain.proofs.defs.put_defaults.Given as goal

abbrev pub invariant-loop-param : goal.invariant-loop-param
invariant-loop-param l =
    (l.block.cells ++ defaults_code (names_of l.site.scope.now) l.site.targets.raised l.function l.parameter l.block.end (map param_of (drop l.param-index l.params)) ≡ l.initial.block.cells ++ defaults_code (names_of l.site.scope.now) l.site.targets.raised l.function 0 l.initial.block.end (map param_of l.params))
    × (defaults_end (names_of l.site.scope.now) l.block.end (map param_of (drop l.param-index l.params)) ≡ defaults_end (names_of l.site.scope.now) l.initial.block.end (map param_of l.params))
