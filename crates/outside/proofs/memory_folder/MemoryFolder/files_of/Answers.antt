use Rattle.std.proofs.Common.{ap, ◌∙◌, sym}
use Rattle.std.specs.Option.{option_copied}
use Rattle.std.specs.List.{find}
use Rattle.std.specs.Str.{bytes_eq}
use Rattle.outside.specs.declared.rows.DirRow.{DirRow}
use Rattle.outside.specs.Memory.{AreFiles}
use Rattle.outside.proofs.FilesInMemory.{All-found}
use Rattle.outside.proofs.memory_folder.MemoryFolder.files_of.Goals as goal

pub returns-clause-files : goal.returns-clause-files
returns-clause-files c =
    let is_named = λ (dir : DirRow). bytes_eq dir.name c.args.dir.now in
    rw c.as_slice-2.ensures (All-found (λ (dir : DirRow). AreFiles dir.files) is_named c.self.inside.dirs c.in_ok-row.row.now c.self.invariant.files (ap (find is_named) (sym c.as_slice.ensures) ∙ sym c.find_dir.ensures ∙ ap option_copied c.in_ok-row.was))
