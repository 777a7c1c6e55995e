use Rattle.std.proofs.Common.{length}
use Rattle.py_lexer.proofs.Quoted.{ReadSoFar}
use Rattle.py_lexer.proofs.string_literal.quoted.Given as goal

abbrev pub invariant-loop-behind : goal.invariant-loop-behind
invariant-loop-behind l = ReadSoFar l.quotes l.text l.characters.items l.rest

abbrev pub decreases-loop-behind : goal.decreases-loop-behind
decreases-loop-behind l = length l.rest
