use Rattle.std.proofs.Common.{◌≡◌, ◌++◌, drop, map}
use Rattle.compile_plain.specs.Scopes.{tree_of}
use Rattle.compile_plain.specs.Tables.{blocks_of, codes_of, function_in}
use Rattle.compile_plain.proofs.compile.compile_all.Given as goal

abbrev pub invariant-loop-number : goal.invariant-loop-number
invariant-loop-number l = blocks_of l.blocks ++ codes_of (tree_of l.names) (map function_in (drop l.number l.functions)) ≡ codes_of (tree_of l.names) (map function_in l.functions)
