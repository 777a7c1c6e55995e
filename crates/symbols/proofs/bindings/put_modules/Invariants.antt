use Rattle.std.proofs.Common.{◌≡◌, ◌++◌, drop}
use Rattle.std.specs.List.{flat_map}
use Rattle.symbols.specs.Bindings.{module_binding}
use Rattle.symbols.proofs.bindings.put_modules.Given as goal

abbrev pub invariant-loop-import : goal.invariant-loop-import
invariant-loop-import l = l.all ++ flat_map (module_binding l.line) (drop l.import-index l.imports) ≡ l.initial.all ++ flat_map (module_binding l.line) l.imports
