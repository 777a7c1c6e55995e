use Rattle.std.proofs.Common.{◌≡◌, length, take}
use Rattle.symbols.specs.Places.{AreMembers}
use Rattle.symbols.proofs.imported.members_of.Given as goal

abbrev pub invariant-loop-binding : goal.invariant-loop-binding
invariant-loop-binding l = record {
  count : length l.members.items ≡ l.binding-index;
  all : AreMembers (take l.binding-index l.bindings) l.members.items;
}
