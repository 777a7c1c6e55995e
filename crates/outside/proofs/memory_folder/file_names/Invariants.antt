use Rattle.std.proofs.Common.{◌≡◌, map, take, string_bytes}
use Rattle.outside.proofs.memory_folder.file_names.Given as goal

abbrev pub invariant-loop-row : goal.invariant-loop-row
invariant-loop-row l = map string_bytes l.names.items ≡ map (λ row. row.name) (take l.row-index l.files)
