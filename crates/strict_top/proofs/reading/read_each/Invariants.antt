use Rattle.std.proofs.Common.{◌≡◌, ◌≤◌}
use Rattle.strict_top.specs.Modules.{greatest_size}
use Rattle.strict_top.proofs.ReadSoFar.{HasRead}
use Rattle.strict_top.proofs.reading.read_each.Given as goal

-- the modules of the keys so far are read, their bytes are few enough, and the folder is as it was
abbrev pub invariant-loop-name : goal.invariant-loop-name
invariant-loop-name g l =
    let f = g.F.Folder in record {
      can : (goal.iterator-loop-name g).can_next l.name-iterator;
      ends : (goal.iterator-loop-name g).is_finite l.name-iterator;
      read : HasRead (f.told l.initial.folder l.dir) l.names.keys l.name-iterator l.files.items l.size;
      small : l.size ≤ greatest_size;
      count : f.faults l.folder ≡ f.faults l.initial.folder;
      same : f.told l.folder ≡ f.told l.initial.folder;
    }
