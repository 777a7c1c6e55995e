-- One import on.
use Rattle.std.proofs.Common.{◌≡◌, Option, Some, None, refl, ap, subst, ◌∙◌, Bor}
use Rattle.std.specs.Option.{is_some, option_copied}
use Rattle.py_tree.specs.declared.code.Code.TheVariants.{NoSuchName}
use Rattle.py_tree.specs.declared.statement.Import.{Import}
use Rattle.symbols.specs.FirstFaults.{IsFirstOf}
use Rattle.module_load.specs.Decisions.{global_named}
use Rattle.module_load.specs.Imports.{unless}
use Rattle.module_load.specs.Preparing.{fault}
use Rattle.module_load.proofs.FirstOnes.{first_with}
use Rattle.module_load.proofs.import_faults.missing.Goals as goal

same_there : {X : Type 0} (found : Option (Bor X)) → is_some found ≡ is_some (option_copied found)
same_there None = refl
same_there (Some x) = refl

pub loop-import-preserved : goal.loop-import-preserved
loop-import-preserved c =
    let name = c.import-item.result.name in
    let globals = c.args.globals.now in
    let faults = λ (i : Import). unless (is_some (global_named i.name globals)) (fault c.args.line NoSuchName) in
    let is_there : c.is_some-is_there.result ≡ is_some (global_named name globals) = c.is_some-is_there.ensures ∙ same_there c.named.result ∙ ap is_some c.named.ensures in
    let here = subst (λ there. IsFirstOf (unless there (fault c.args.line NoSuchName)) c.fault_unless.result) is_there c.fault_unless.ensures in
    rw c.earlier-first.ensures (first_with faults c.args.names.now c.loop-import.import-index c.import-item.result c.loop-import.first c.fault_unless.result c.loop-import-test.true c.import-item.is c.loop-import.invariant here)
