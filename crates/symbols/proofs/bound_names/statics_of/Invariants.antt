use Rattle.std.proofs.Common.{◌≡◌, drop}
use Rattle.std.specs.Option.{option_or}
use Rattle.py_tree.specs.Syntax.{Text}
use Rattle.symbols.specs.Names.{found}
use Rattle.symbols.specs.SpecialNames.{static_in}
use Rattle.symbols.proofs.bound_names.statics_of.Given as goal

abbrev pub invariant-loop-binding : goal.invariant-loop-binding
invariant-loop-binding l = (name : Text) → option_or (found l.statics name) (static_in l.kind (drop l.binding-index l.bindings) name) ≡ static_in l.kind l.bindings name
