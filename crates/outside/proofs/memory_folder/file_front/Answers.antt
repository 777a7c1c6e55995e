use Rattle.std.proofs.Common.{ap, sym, ◌∙◌}
use Rattle.std.specs.Option.{option_copied}
use Rattle.std.proofs.lemmas.Result.{IfOk-weaker}
use Rattle.outside.specs.Files.{front_of}
use Rattle.outside.proofs.FilesInMemory.{IsSome-told, IsReading-front}
use Rattle.outside.proofs.memory_folder.file_front.Goals as goal

pub unwrap-row-requires : goal.unwrap-row-requires
unwrap-row-requires c = IsSome-told c.args.files.now c.args.name.now c.find_file.result c.find_file.ensures c.requires

pub returns-clause-bytes : goal.returns-clause-bytes
returns-clause-bytes c =
    IfOk-weaker c.from_slice.result _ _
    (λ v is. IsReading-front c.args.files.now c.args.name.now c.unwrap-row.result.now v.items (sym c.find_file.ensures ∙ ap option_copied c.unwrap-row.ensures) (is ∙ c.front.ensures.value ∙ ap front_of c.as_slice.ensures))
    c.from_slice.ensures.items
