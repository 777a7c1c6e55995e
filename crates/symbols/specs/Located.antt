-- No definition of the language: the functions that references to them stand for.
use Rattle.std.specs.Prelude.{List, map}
use Rattle.py_tree.specs.Joined.{function_of}
use Rattle.symbols.specs.declared.functions.FunctionAt.{FunctionAt as Known}
use Rattle.symbols.specs.Functions.{FunctionAt}

abbrev pub located_one : Known → FunctionAt
located_one f = record { line = f.line; function = function_of f.function.now }

abbrev pub located : List Known → List FunctionAt
located fs = map located_one fs
