use Rattle.std.proofs.Common.{◌≤◌, vec_len}
use Rattle.outside.proofs.disk_folder.file_names.Given as goal

abbrev pub invariant-loop-entry : goal.invariant-loop-entry
invariant-loop-entry g l = vec_len l.names ≤ 1000000
