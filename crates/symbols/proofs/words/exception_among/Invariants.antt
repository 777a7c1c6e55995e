use Rattle.std.proofs.Common.{◌≡◌, drop}
use Rattle.std.specs.List.{find}
use Rattle.std.specs.Str.{bytes_eq}
use Rattle.py_values.specs.Exceptions.{name_of}
use Rattle.symbols.proofs.words.exception_among.Given as goal

abbrev pub invariant-loop-kind : goal.invariant-loop-kind
invariant-loop-kind l = find (λ kind. bytes_eq l.name (name_of kind)) (drop l.kind-index l.kinds) ≡ find (λ kind. bytes_eq l.name (name_of kind)) l.kinds
