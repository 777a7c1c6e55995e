-- The numbers are those of all names, and the table is that of all modules.
use Rattle.std.proofs.Common.{ℕ, List, Option, Bor, sym, ap, subst, ◌∙◌}
use Rattle.std.specs.List.{position}
use Rattle.std.specs.Str.{bytes_eq}
use Rattle.module_load.specs.Folders.{names_of}
use Rattle.module_load.specs.Needs.{IsTableOf}
use Rattle.module_load.specs.declared.source.Source.{Source}
use Rattle.module_load.specs.declared.verdict.Verdict.{Verdict}
use Rattle.module_load.proofs.strict_python.load_tree.Goals as goal

pub invariant_of-needed : goal.invariant_of-needed
invariant_of-needed c =
    let all = c.args.all.now in
    let rows = c.args.imports.now.rows in
    record {
      named = λ name. c.in_ok-numbers.ensures name ∙ ap (λ (list : List Source). position (bytes_eq name) (names_of list)) c.as_slice-2.ensures;
      numbered = subst (λ (n : ℕ). IsTableOf n rows c.as_slice-3.result.now) (c.count.ensures ∙ sym all.each) (subst (λ (table : List (Option (Bor Verdict))). IsTableOf c.count.result rows table) (sym c.as_slice-3.ensures.value) c.in_ok-table.ensures);
    }
