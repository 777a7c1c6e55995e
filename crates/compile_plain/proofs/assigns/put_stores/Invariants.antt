use Rattle.std.proofs.Common.{◌≡◌, ◌+◌, ◌++◌, drop, map}
use Rattle.compile_plain.specs.Assignments.{store}
use Rattle.compile_plain.specs.Scopes.{names_of}
use Rattle.compile_plain.proofs.assigns.put_stores.Given as goal

abbrev pub invariant-loop-name : goal.invariant-loop-name
invariant-loop-name l =
    (l.block.cells ++ map (store (names_of l.site.scope.now) l.site.targets.raised) (drop l.name-index l.names) ≡ l.initial.block.cells ++ map (store (names_of l.site.scope.now) l.site.targets.raised) l.names)
    × (l.block.end ≡ l.initial.block.end + l.name-index)
