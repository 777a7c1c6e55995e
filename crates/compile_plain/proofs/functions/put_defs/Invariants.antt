use Rattle.std.proofs.Common.{◌≡◌, ◌++◌, drop, map}
use Rattle.std.specs.List.{flat_map}
use Rattle.symbols.specs.Views.{seen}
use Rattle.py_meaning.specs.Modules.{method_in}
use Rattle.compile_plain.specs.Tables.{function_in}
use Rattle.compile_plain.proofs.functions.put_defs.Given as goal

abbrev pub invariant-loop-statement : goal.invariant-loop-statement
invariant-loop-statement l = map function_in l.all.items ++ flat_map (method_in l.number) (seen (drop l.statement-index l.scope)) ≡ map function_in l.initial.all.items ++ flat_map (method_in l.number) (seen l.scope)
