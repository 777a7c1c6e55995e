use Rattle.std.proofs.Common.{◌≡◌, length, map}
use Rattle.module_load.specs.Folders.{file_of}
use Rattle.module_load.proofs.Folders.{Each}
use Rattle.module_load.proofs.folder.prepare_all.Given as goal

abbrev pub invariant-loop-file : goal.invariant-loop-file
invariant-loop-file l = record { as_many : length l.list ≡ l.file-index; each : Each (map file_of l.files) l.list }
