use Rattle.std.proofs.Common.{◌+◌, ℕ, List, [], ◌∷◌, ◌++◌, sym, ◌∙◌, subst}
use Rattle.outside.specs.Files.{Told}
use Rattle.module_load.specs.declared.folder.ModuleFile.{ModuleFile}
use Rattle.module_load.specs.Folders.{file_of}
use Rattle.strict_top.specs.Steps.{IsFileIn}
use Rattle.strict_top.proofs.ReadSoFar.{HasRead, read_all, read_front, read_more}
use Rattle.strict_top.proofs.reading.read_each.Goals as goal

pub returns-then-size-gt-GREATEST_SIZE-clause-read : goal.returns-then-size-gt-GREATEST_SIZE-clause-read
returns-then-size-gt-GREATEST_SIZE-clause-read g c =
    let dir = c.args.dir.now in
    let told : Told = g.F.Folder.told c.args.folder.now dir in
    let keys = c.args.names.now.keys in
    let files = c.loop-name.files.items in
    let one = subst (λ (t : List ℕ → Told). IsFileIn (t dir) (file_of c.in_ok-file.file)) c.loop-name.invariant.same c.in_ok-file.ensures.read in
    let read = read_more told keys c.loop-name.name-iterator c.next.new.self c.in-Some.name.now files c.in_ok-file.file c.loop-name.size c.len-size.result
    c.loop-name.invariant.read c.in-Some.ensures.steps one (c.in_ok-file.ensures.name ∙ c.as_str.ensures.value) c.len-size.ensures in
    read_front told keys c.next.new.self (files ++ c.in_ok-file.file ∷ []) (c.loop-name.size + c.len-size.result) read c.if-size-gt-GREATEST_SIZE.true

pub loop-name-preserved : goal.loop-name-preserved
loop-name-preserved g c =
    let dir = c.args.dir.now in
    let told : Told = g.F.Folder.told c.args.folder.now dir in
    let keys = c.args.names.now.keys in
    let files = c.loop-name.files.items in
    let one = subst (λ (t : List ℕ → Told). IsFileIn (t dir) (file_of c.in_ok-file.file)) c.loop-name.invariant.same c.in_ok-file.ensures.read in
    let read = read_more told keys c.loop-name.name-iterator c.next.new.self c.in-Some.name.now files c.in_ok-file.file c.loop-name.size c.len-size.result
    c.loop-name.invariant.read c.in-Some.ensures.steps one (c.in_ok-file.ensures.name ∙ c.as_str.ensures.value) c.len-size.ensures in
    record {
      can = tt;
      ends = tt;
      read = subst (λ fs. HasRead told keys c.next.new.self fs (c.loop-name.size + c.len-size.result)) (sym {A = List ModuleFile} c.in_ok-add.ensures) read;
      small = c.if-size-gt-GREATEST_SIZE.false;
      count = c.in_ok-file.ensures.count ∙ c.loop-name.invariant.count;
      same = c.in_ok-file.ensures.same ∙ c.loop-name.invariant.same;
    }

pub returns-clause-read : goal.returns-clause-read
returns-clause-read g c =
    let told : Told = g.F.Folder.told c.args.folder.now c.args.dir.now in
    read_all told c.args.names.now.keys c.loop-name.name-iterator c.loop-name.files c.loop-name.size c.loop-name.invariant.read c.in-None.ensures.steps.0 c.loop-name.invariant.small
