use Rattle.std.proofs.Common.{◌≡◌, ◌++◌, drop, map}
use Rattle.symbols.specs.Views.{seen}
use Rattle.py_meaning.specs.Modules.{functions_from}
use Rattle.compile_plain.specs.Tables.{function_in}
use Rattle.compile_plain.proofs.functions.functions_of.Given as goal

abbrev pub invariant-loop-statement : goal.invariant-loop-statement
invariant-loop-statement l = map function_in l.all.items ++ functions_from l.classes (seen (drop l.statement-index l.scope)) ≡ functions_from 0 (seen l.scope)
