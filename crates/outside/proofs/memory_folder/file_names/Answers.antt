use Rattle.std.proofs.Common.{◌≡◌, ◌<◌, map, length, string_bytes, arith, sym, subst}
use Rattle.std.proofs.lemmas.Grind.{common_steps}
use Rattle.std.specs.Str.{IsUtf8}
use Rattle.outside.specs.declared.rows.FileRow.{FileRow}
use Rattle.outside.proofs.FilesInMemory.{IsPermutation-names}
use Rattle.outside.proofs.memory_folder.file_names.Goals as goal

pub text_of-requires : goal.text_of-requires
text_of-requires c =
    let within : c.loop-row.row-index < length c.args.files.now = omega arith in
    rw c.as_slice.ensures (subst (λ (row : FileRow). IsUtf8 row.name) (sym c.row-item.is) (c.requires.texts c.loop-row.row-index c.row-item.result within))

pub returns : goal.returns
returns c =
    let all : map string_bytes c.loop-row.names.items ≡ map (λ (row : FileRow). row.name) c.args.files.now = grind (arith, common_steps) in
    rw all (IsPermutation-names c.args.files.now c.requires)
