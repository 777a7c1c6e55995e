-- A folder in memory: what it tells, and what a call of it does.
use Rattle.std.specs.Prelude.{◌≡◌, ℕ, Bool, true, false, ◌||◌, List, map, All, Option, Some, None, is_none, Result, Ok, Err}
use Rattle.std.specs.Option.{option_map}
use Rattle.std.specs.List.{find, IsDistinct}
use Rattle.std.specs.Str.{IsUtf8, bytes_eq}
use Rattle.std.specs.FinMap.{from_entries}
use Rattle.outside.specs.Calls.{next_count, is_due}
use Rattle.outside.specs.declared.folder.FolderFault.{FolderFault}
use Rattle.outside.specs.declared.folder.FolderFault.TheVariants.{Failed, Memory}
use Rattle.outside.specs.declared.rows.FileRow.{FileRow}
use Rattle.outside.specs.declared.rows.DirRow.{DirRow}
use Rattle.outside.specs.Files.{Files, Told, Missing, Holds}

-- The names of a directory's files are texts, and no two are the same.
pub record AreFiles (rows : List FileRow) : Type 0 where
  pub texts : All (λ row. IsUtf8 row.name) rows
  pub distinct : IsDistinct bytes_eq (map (λ row. row.name) rows)

-- So are the names of the directories, and those of the files in each.
pub record AreDirs (rows : List DirRow) : Type 0 where
  pub texts : All (λ row. IsUtf8 row.name) rows
  pub distinct : IsDistinct bytes_eq (map (λ row. row.name) rows)
  pub files : All (λ row. AreFiles row.files) rows

-- A folder in memory: its directories, the numbers of the calls that are to fail, and how many calls and faults there were.
pub record FolderState : Type 0 where
  pub dirs : List DirRow
  pub failing : List ℕ
  pub calls : ℕ
  pub faults : ℕ

-- The files of the directory of that name, if there is one.
abbrev pub rows_in : List DirRow → List ℕ → Option (List FileRow)
rows_in dirs name = option_map (λ dir. dir.files) (find (λ dir. bytes_eq dir.name name) dirs)

-- The file of that name, if there is one.
abbrev pub row_in : List FileRow → List ℕ → Option FileRow
row_in rows name = find (λ row. bytes_eq row.name name) rows

abbrev pub files_in : List FileRow → Files
files_in rows = from_entries (map (λ row. (row.name, row.bytes)) rows)

abbrev pub told_by : Option (List FileRow) → Told
told_by None = Missing
told_by (Some rows) = Holds (files_in rows)

-- What the folder tells of the directory of that name.
abbrev pub told_in : FolderState → List ℕ → Told
told_in folder name = told_by (rows_in folder.dirs name)

-- Whether the next call fails whatever it is, and whether it fails if it lists the directory of that name.
abbrev pub call_fails : FolderState → Bool
call_fails folder = is_due folder.failing folder.calls

abbrev pub list_fails : FolderState → List ℕ → Bool
list_fails folder name = call_fails folder || is_none (rows_in folder.dirs name)

-- The folder after a call that didn't fail, and after one that did.
abbrev pub after_call : FolderState → FolderState
after_call folder = record folder { calls = next_count folder.calls }

abbrev pub after_failure : FolderState → FolderState
after_failure folder = record folder { calls = next_count folder.calls; faults = next_count folder.faults }

-- What a call does: it fails exactly where it is to.
abbrev pub AnswersCall : {T : Type 0} → Result T FolderFault → Bool → FolderState → FolderState → Type 0
AnswersCall (Ok x) fails before now = (fails ≡ false) × (now ≡ after_call before)
AnswersCall (Err Failed) fails before now = (fails ≡ true) × (now ≡ after_failure before)
AnswersCall (Err Memory) fails before now = (fails ≡ false) × (now ≡ after_call before)
