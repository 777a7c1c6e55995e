use Rattle.std.proofs.Common.{◌≡◌, List, ℕ, true, Some, None, string_bytes, ap, sym, ◌∙◌, subst}
use Rattle.std.specs.BTreeSet.{contains_text, IsOrdered}
use Rattle.std.specs.Bool.{if◌then◌else◌}
use Rattle.std.specs.Str.{bytes_eq}
use Rattle.std.specs.String.{string_cmp}
use Rattle.std.proofs.lemmas.Map.Text.{btree_set_updates_text}
use Rattle.strict_top.specs.Modules.{module_in}
use Rattle.strict_top.proofs.ModuleLemmas.{module_in-other, module_in-ending, names_more, names_same, names_added}
use Rattle.strict_top.proofs.modules.modules_among.Goals as goal
use Rattle.strict_top.proofs.modules.modules_among.Goals.{then-branch+in_ok-from_str+in_ok-insert, else-branch}

pub loop-file-preserved-in_default : goal.loop-file-preserved-in_default
loop-file-preserved-in_default c =
    let file = string_bytes c.file-item.result in
    let none : module_in file ≡ None = ap module_in (sym c.as_str.ensures.value) ∙ module_in-other c.as_str.result.now c.in_default.ensures in
    record {
      members = λ name. c.loop-file.invariant.members name ∙ sym (names_same _ file name none)
          ∙ sym (names_more c.args.files.now c.loop-file.file-index c.file-item.result name c.loop-file-test.true c.file-item.is);
      ordered = c.loop-file.invariant.ordered;
    }

pub loop-file-preserved : goal.loop-file-preserved
loop-file-preserved c =
    let file = string_bytes c.file-item.result in
    let stem = c.in-Some.name.now in
    let here : module_in file ≡ (if c.in_ok-is_module_name.field-0 then Some stem else None) =
    ap module_in (sym c.as_str.ensures.value ∙ c.in-Some.ensures) ∙ module_in-ending stem ∙ ap (λ b. if b then Some stem else None) (sym c.in_ok-is_module_name.ensures) in
    let more = λ (name : List ℕ). sym (names_more c.args.files.now c.loop-file.file-index c.file-item.result name c.loop-file-test.true c.file-item.is) in
    elim c.if-branch.branch [
      | then-branch+in_ok-from_str+in_ok-insert w ↦
          let found : module_in file ≡ Some (string_bytes w.in_ok-from_str.field-0) = here ∙ ap (λ b. if b then Some stem else None) w.if-branch.true ∙ ap Some (sym w.in_ok-from_str.ensures.ok) in
          record {
            members = λ name. ap (λ s. contains_text s name) w.names-is
                ∙ btree_set_updates_text (string_bytes w.in_ok-from_str.field-0) c.loop-file.names w.insert.new.self _ w.in_ok-insert.ensures.updates name
                ∙ ap (λ old. if bytes_eq (string_bytes w.in_ok-from_str.field-0) name then true else old) (c.loop-file.invariant.members name)
                ∙ sym (names_added _ file name _ found) ∙ more name;
            ordered = subst (IsOrdered string_cmp) (sym w.names-is) w.in_ok-insert.ensures.ordered;
          }
      | else-branch w ↦
          let none : module_in file ≡ None = here ∙ ap (λ b. if b then Some stem else None) w.if-branch.false in
          record {
            members = λ name. ap (λ s. contains_text s name) w.names-is ∙ c.loop-file.invariant.members name ∙ sym (names_same _ file name none) ∙ more name;
            ordered = subst (IsOrdered string_cmp) (sym w.names-is) c.loop-file.invariant.ordered;
          }
    ]
