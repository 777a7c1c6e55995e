use Rattle.std.proofs.Common.{ap, sym, map, ◌∙◌}
use Rattle.std.specs.Bool.{if◌then◌else◌}
use Rattle.std.proofs.lemmas.List.{length-map}
use Rattle.module_load.specs.Folders.{file_of}
use Rattle.strict_top.specs.declared.status.Status.TheVariants.{Done, Refused}
use Rattle.strict_top.proofs.ReportLemmas.{any_paired}
use Rattle.strict_top.proofs.run.status_of.Goals as goal

pub returns-then-some_refused : goal.returns-then-some_refused
returns-then-some_refused c =
    let any = any_paired (map file_of c.args.files.now) c.args.world.now (c.requires.each ∙ sym (length-map c.args.files.now file_of)) in
    ap (λ b. if b then Refused else Done) (sym c.if-some_refused.true ∙ c.some_refused.ensures ∙ sym any)

pub returns-else-some_refused : goal.returns-else-some_refused
returns-else-some_refused c =
    let any = any_paired (map file_of c.args.files.now) c.args.world.now (c.requires.each ∙ sym (length-map c.args.files.now file_of)) in
    ap (λ b. if b then Refused else Done) (sym c.if-some_refused.false ∙ c.some_refused.ensures ∙ sym any)
