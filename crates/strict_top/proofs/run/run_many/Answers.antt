use Rattle.std.proofs.Common.{map, refl, inr, string_bytes, subst}
use Rattle.module_load.specs.Folders.{file_of}
use Rattle.strict_top.specs.Reports.{report_of, bad_words, too_large}
use Rattle.strict_top.specs.Steps.{IsFound, paired}
use Rattle.strict_top.proofs.RunLemmas.{bad_words_only, exactly, report_of_bad_words, report_of_read, report_of_too_large, writes_exactly, writes_ended, writes_fault, writes_memory}
use Rattle.strict_top.proofs.Writing.{appends_nothing}
use Rattle.strict_top.proofs.run.run_many.Goals as goal

-- ---- words that aren't taken

pub report_bad_words-requires : goal.report_bad_words-requires
report_bad_words-requires g c =
    let words = map string_bytes c.args.words.now in
    λ room is. c.requires.room room is bad_words (report_of_bad_words words (g.F.Folder.told c.args.folder.now) c.in_default.ensures)

pub returns-in_default-clause-ended : goal.returns-in_default-clause-ended
returns-in_default-clause-ended g c =
    let words = map string_bytes c.args.words.now in
    let report = report_of_bad_words words (g.F.Folder.told c.args.folder.now) c.in_default.ensures in
    λ ended. (writes_ended words _ bad_words _ _ _ _ _ report c.report_bad_words.ensures ended).0

pub returns-in_default-clause-sink_fault : goal.returns-in_default-clause-sink_fault
returns-in_default-clause-sink_fault g c =
    let words = map string_bytes c.args.words.now in
    let report = report_of_bad_words words (g.F.Folder.told c.args.folder.now) c.in_default.ensures in
    λ is. let told = writes_fault words _ bad_words _ _ _ _ _ report c.report_bad_words.ensures is in (told.0, refl, told.1)

pub returns-in_default-clause-out_of_memory : goal.returns-in_default-clause-out_of_memory
returns-in_default-clause-out_of_memory g c =
    let words = map string_bytes c.args.words.now in
    let report = report_of_bad_words words (g.F.Folder.told c.args.folder.now) c.in_default.ensures in
    λ is. let told = writes_memory words _ bad_words _ _ _ _ _ report c.report_bad_words.ensures is in (refl, told.0, inr told.1)

-- ---- a directory that is too large

pub returns-in-Ok-TooLarge-clause-ended : goal.returns-in-Ok-TooLarge-clause-ended
returns-in-Ok-TooLarge-clause-ended g c =
    let words = map string_bytes c.args.words.now in
    let told = g.F.Folder.told c.args.folder.now in
    let found = subst (IsFound (told c.in-Some.dir.now)) c.in-Ok-TooLarge.field-0-is c.in-Ok-TooLarge.ensures.found in
    λ ended. record {
      report = too_large;
      is_report = report_of_too_large words told c.in-Some.dir.now c.in-Some.ensures found;
      written = appends_nothing _;
      answered = refl;
    }

-- ---- modules

pub report_world-requires-clause-room : goal.report_world-requires-clause-room
report_world-requires-clause-room g c =
    let words = map string_bytes c.args.words.now in
    let told = g.F.Folder.told c.args.folder.now in
    let files = c.deref-2.result.now in
    let verdicts = c.in-Ok.world in
    let mine = report_of (paired (map file_of files) verdicts) in
    let is_mine = report_of_read words told c.in-Some.dir.now c.in-Ok-Modules.files.items files c.deref.result.now verdicts c.in-Some.ensures
    (subst (IsFound (told c.in-Some.dir.now)) c.in-Ok-Modules.field-0-is c.in-Ok-Modules.ensures.found) c.deref-2.ensures.value c.deref.ensures.value c.in-Ok.ensures in
    λ room is. c.requires.room room is mine is_mine

pub returns-clause-exact : goal.returns-clause-exact
returns-clause-exact g c =
    let words = map string_bytes c.args.words.now in
    let told = g.F.Folder.told c.args.folder.now in
    let files = c.deref-2.result.now in
    let verdicts = c.in-Ok.world in
    let mine = report_of (paired (map file_of files) verdicts) in
    let is_mine = report_of_read words told c.in-Some.dir.now c.in-Ok-Modules.files.items files c.deref.result.now verdicts c.in-Some.ensures
    (subst (IsFound (told c.in-Some.dir.now)) c.in-Ok-Modules.field-0-is c.in-Ok-Modules.ensures.found) c.deref-2.ensures.value c.deref.ensures.value c.in-Ok.ensures in
    λ holding report is_report folder_calm sink_calm found.
    exactly words told mine report _ _ c.report_world.result is_mine holding is_report (writes_exactly mine _ _ _ _ c.report_world.result c.report_world.ensures sink_calm found)

pub returns-clause-ended : goal.returns-clause-ended
returns-clause-ended g c =
    let words = map string_bytes c.args.words.now in
    let told = g.F.Folder.told c.args.folder.now in
    let files = c.deref-2.result.now in
    let verdicts = c.in-Ok.world in
    let mine = report_of (paired (map file_of files) verdicts) in
    let is_mine = report_of_read words told c.in-Some.dir.now c.in-Ok-Modules.files.items files c.deref.result.now verdicts c.in-Some.ensures
    (subst (IsFound (told c.in-Some.dir.now)) c.in-Ok-Modules.field-0-is c.in-Ok-Modules.ensures.found) c.deref-2.ensures.value c.deref.ensures.value c.in-Ok.ensures in
    λ ended. (writes_ended words _ mine _ _ _ _ _ is_mine c.report_world.ensures ended).0

pub returns-clause-sink_fault : goal.returns-clause-sink_fault
returns-clause-sink_fault g c =
    let words = map string_bytes c.args.words.now in
    let told = g.F.Folder.told c.args.folder.now in
    let files = c.deref-2.result.now in
    let verdicts = c.in-Ok.world in
    let mine = report_of (paired (map file_of files) verdicts) in
    let is_mine = report_of_read words told c.in-Some.dir.now c.in-Ok-Modules.files.items files c.deref.result.now verdicts c.in-Some.ensures
    (subst (IsFound (told c.in-Some.dir.now)) c.in-Ok-Modules.field-0-is c.in-Ok-Modules.ensures.found) c.deref-2.ensures.value c.deref.ensures.value c.in-Ok.ensures in
    λ is. let fault = writes_fault words _ mine _ _ _ _ _ is_mine c.report_world.ensures is in (fault.0, c.in-Ok-Modules.ensures.count, fault.1)

pub returns-clause-out_of_memory : goal.returns-clause-out_of_memory
returns-clause-out_of_memory g c =
    let words = map string_bytes c.args.words.now in
    let told = g.F.Folder.told c.args.folder.now in
    let files = c.deref-2.result.now in
    let verdicts = c.in-Ok.world in
    let mine = report_of (paired (map file_of files) verdicts) in
    let is_mine = report_of_read words told c.in-Some.dir.now c.in-Ok-Modules.files.items files c.deref.result.now verdicts c.in-Some.ensures
    (subst (IsFound (told c.in-Some.dir.now)) c.in-Ok-Modules.field-0-is c.in-Ok-Modules.ensures.found) c.deref-2.ensures.value c.deref.ensures.value c.in-Ok.ensures in
    λ is. let memory = writes_memory words _ mine _ _ _ _ _ is_mine c.report_world.ensures is in (c.in-Ok-Modules.ensures.count, memory.0, inr memory.1)

-- ---- which words

pub returns-in_default-clause-bad_words : goal.returns-in_default-clause-bad_words
returns-in_default-clause-bad_words g c = λ ended. bad_words_only (map string_bytes c.args.words.now) _ _ _ _ (returns-in_default-clause-ended g c ended)

pub returns-in-Ok-TooLarge-clause-bad_words : goal.returns-in-Ok-TooLarge-clause-bad_words
returns-in-Ok-TooLarge-clause-bad_words g c = λ ended. bad_words_only (map string_bytes c.args.words.now) _ _ _ _ (returns-in-Ok-TooLarge-clause-ended g c ended)

pub returns-clause-bad_words : goal.returns-clause-bad_words
returns-clause-bad_words g c = λ ended. bad_words_only (map string_bytes c.args.words.now) _ _ _ _ (returns-clause-ended g c ended)
