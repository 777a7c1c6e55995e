-- The file is the first of its directory.
use Rattle.std.proofs.Common.{List, [], ◌∷◌, ap, codes}
use Rattle.std.specs.Prelude.{is_some}
use Rattle.outside.specs.declared.rows.FileRow.{FileRow}
use Rattle.outside.proofs.FilesInMemory.{get-files_in}
use Rattle.public_calls.proofs.memory_folder.folder.Goals as goal

abbrev files : List FileRow
files = record { name = codes "a"; bytes = codes "A" } ∷ []

pub returns : goal.returns
returns g c = rw (c.new.ensures, c.in_ok-dirs.ensures) (ap is_some (get-files_in files (codes "a")))
