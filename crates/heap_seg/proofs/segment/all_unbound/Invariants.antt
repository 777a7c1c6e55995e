use Rattle.std.proofs.Common.{◌≡◌, ◌++◌, drop}
use Rattle.heap_seg.specs.Globals.{unbound}
use Rattle.heap_seg.proofs.segment.all_unbound.Given as goal

-- what was put, and what is left to put
abbrev pub invariant-loop-name : goal.invariant-loop-name
invariant-loop-name l = l.globals ++ unbound (drop l.name-index l.names) ≡ unbound l.names
