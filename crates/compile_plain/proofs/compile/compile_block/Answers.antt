use Rattle.std.proofs.Common.{◌≡◌, true, List, sym, subst}
use Rattle.py_tree.specs.Joined.{statements_of}
use Rattle.bytecode.specs.Forward.{forwards}
use Rattle.bytecode.specs.declared.instr.Cell.{Cell}
use Rattle.compile_plain.specs.Scopes.{names_of}
use Rattle.compile_plain.proofs.Forward.{bodies_forward}
use Rattle.compile_plain.proofs.compile.compile_block.Goals as goal

pub invariant_of-result : goal.invariant_of-result
invariant_of-result c = record {
  is_forward = subst (λ (cells : List Cell). forwards 0 cells ≡ true) (sym c.in_ok-cells.ensures) (bodies_forward (names_of c.args.scope.now) (statements_of c.args.body.now));
}
