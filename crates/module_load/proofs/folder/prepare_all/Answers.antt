use Rattle.std.proofs.Common.{◌≡◌, ◌+◌, ℕ, List, Some, length, map, slice_get, chars, ap, subst, ◌∙◌}
use Rattle.std.proofs.lemmas.List.{length_push}
use Rattle.module_load.specs.Sources.{state_of}
use Rattle.module_load.specs.Preparing.{Prepares}
use Rattle.module_load.specs.Folders.{file_of, IsSource}
use Rattle.module_load.proofs.Folders.{file_there, one_more}
use Rattle.module_load.proofs.folder.prepare_all.Goals as goal

pub loop-file-preserved : goal.loop-file-preserved
loop-file-preserved c =
    let files = map file_of c.args.files.now in
    let k = c.loop-file.file-index in
    let list = c.loop-file.list in
    let file = c.file-item.result in
    let source = c.in_ok-prepare.field-0 in
    let pushed = c.in_ok-push.ensures.ok in
    let there : slice_get files (length list) ≡ Some (file_of file) =
    ap (slice_get files) c.loop-file.invariant.as_many ∙ file_there c.args.files.now k file c.loop-file-test.true c.file-item.is in
    let made : IsSource (file_of file) source = record {
      name = c.in_ok-prepare.ensures.name ∙ ap chars c.as_str.ensures.value;
      state = subst (λ (bytes : List ℕ). Prepares bytes (state_of source.state)) c.deref.ensures.value c.in_ok-prepare.ensures.so;
    } in
    record {
      as_many = ap length pushed ∙ length_push list source ∙ ap (λ (n : ℕ). n + 1) c.loop-file.invariant.as_many;
      each = one_more files list c.push.new.self (file_of file) source c.loop-file.invariant.each there made pushed;
    }
