use Rattle.std.proofs.Common.{◌≡◌, ◌++◌, drop, map}
use Rattle.symbols.specs.Bindings.{bound}
use Rattle.symbols.specs.declared.binding.BindingKind.TheVariants as by
use Rattle.symbols.proofs.bindings.put_names.Given as goal

abbrev pub invariant-loop-name : goal.invariant-loop-name
invariant-loop-name l = l.all ++ map (bound l.line by.Other) (drop l.name-index l.names) ≡ l.initial.all ++ map (bound l.line by.Other) l.names
