use Rattle.std.proofs.Common.{◌≡◌, ◌++◌, drop}
use Rattle.py_tree.specs.Joined.{statements_of}
use Rattle.compile_plain.specs.Definitions.{members_code, members_end}
use Rattle.compile_plain.specs.Scopes.{names_of}
use Rattle.compile_plain.proofs.defs.put_members.Given as goal

abbrev pub invariant-loop-statement : goal.invariant-loop-statement
invariant-loop-statement l =
    (l.block.cells ++ members_code (names_of l.site.scope.now) l.site.targets.raised l.class l.block.end (statements_of (drop l.statement-index l.body)) ≡ l.initial.block.cells ++ members_code (names_of l.site.scope.now) l.site.targets.raised l.class l.initial.block.end (statements_of l.body))
    × (members_end (names_of l.site.scope.now) l.class l.block.end (statements_of (drop l.statement-index l.body)) ≡ members_end (names_of l.site.scope.now) l.class l.initial.block.end (statements_of l.body))
