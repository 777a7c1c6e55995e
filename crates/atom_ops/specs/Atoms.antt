-- The operands that the program's atoms are, and what it answers of them.
use Rattle.std.specs.Prelude.{Result, Ok, Err}
use Rattle.py_values.specs.declared.exception.ExcKind.{ExcKind}
use Rattle.atom_ops.specs.Operands.{Operand, Nil, Truth, Int, Points, Prim64, PrimBool, Opaque, Answer, Gives, Raises}
use Rattle.atom_ops.specs.declared.atom.Atom.{Atom}
use Rattle.atom_ops.specs.declared.atom.Atom.TheVariants as atom

abbrev pub operand_of : Atom → Operand
operand_of atom.Nil = Nil
operand_of (atom.Truth b) = Truth b
operand_of (atom.Int n) = Int n
operand_of (atom.Points text) = Points text.now
operand_of (atom.Prim64 n) = Prim64 n
operand_of (atom.PrimBool b) = PrimBool b
operand_of atom.Opaque = Opaque

abbrev pub answer : Result Atom ExcKind → Answer
answer (Ok a) = Gives (operand_of a)
answer (Err kind) = Raises kind
