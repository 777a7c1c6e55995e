use Rattle.std.proofs.Common.{◌≡◌, map, Some, subst}
use Rattle.std.specs.Prelude.{IfOk, slice_get}
use Rattle.py_tree.specs.Syntax.{Statements}
use Rattle.symbols.specs.declared.outer.Outer.{Outer}
use Rattle.py_meaning.specs.Modules.{functions}
use Rattle.compile_plain.specs.Standing.{function_code}
use Rattle.compile_plain.proofs.compile.compile_function.Goals as goal

pub returns : goal.returns
returns c =
    subst (λ (tree : Statements). IfOk c.compile_numbered.result (λ block. (o : Outer) → slice_get (map (function_code o tree) (functions tree)) c.args.number ≡ Some block.cells))
    c.in_ok-names.ensures c.compile_numbered.ensures
