use Rattle.std.proofs.Common.{rules, tests}
use Rattle.std.proofs.lemmas.Bool.Decides.{when_true}
use Rattle.std.proofs.lemmas.Iterator.{cases_from_all, YieldsList-from_slice}
use Rattle.std.proofs.lemmas.Iterator.Search.{true_from_All}
use Rattle.std.proofs.lemmas.List.Elements.{All-from_all_within}
use Rattle.outside.specs.declared.rows.DirRow.{DirRow}
use Rattle.outside.specs.Memory.{AreFiles}
use Rattle.outside.proofs.memory_folder.names.hold_files.Goals as goal

pub returns : goal.returns
returns c =
    let dirs = c.args.dirs.now in
    let Holds = λ (dir : DirRow). AreFiles dir.files in
    let by_call = cases_from_all _ _ _ Holds (λ (dir : DirRow). ¬ (Holds dir)) c.all.ensures.ran (YieldsList-from_slice dirs cc) (λ x q k. search (rules, tests)) (λ x q k. search (rules, tests)) in
    (λ all. All-from_all_within Holds dirs (when_true _ _ all by_call), true_from_All Holds (λ (dir : DirRow). ¬ (Holds dir)) c.all.result dirs (λ dir holds not. not holds) by_call)
