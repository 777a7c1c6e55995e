use Rattle.std.proofs.Common.{◌≡◌, drop}
use Rattle.py_tree.specs.Joined.{statements_of}
use Rattle.compile_plain.specs.Definitions.{members_end}
use Rattle.compile_plain.specs.Scopes.{names_of}
use Rattle.compile_plain.proofs.defs.end_of_members.Given as goal

abbrev pub invariant-loop-statement : goal.invariant-loop-statement
invariant-loop-statement l = members_end (names_of l.scope) l.class l.end (statements_of (drop l.statement-index l.body)) ≡ members_end (names_of l.scope) l.class l.place (statements_of l.body)
