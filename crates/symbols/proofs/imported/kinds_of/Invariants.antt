use Rattle.std.proofs.Common.{◌≡◌, ◌++◌, drop}
use Rattle.symbols.specs.ClassViews.{kinds_of}
use Rattle.symbols.proofs.imported.kinds_of.Given as goal

abbrev pub invariant-loop-binding : goal.invariant-loop-binding
invariant-loop-binding l = l.kinds ++ kinds_of (drop l.binding-index l.bindings) ≡ kinds_of l.bindings
