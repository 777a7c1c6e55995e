use Rattle.std.proofs.Common.{◌≡◌, ◌∙◌, ◌++◌, List, ap, subst, sym}
use Rattle.std.specs.Prelude.{OnOk}
use Rattle.py_tree.specs.Joined.{expressions_of, pairs_of}
use Rattle.bytecode.specs.declared.instr.Cell.{Cell}
use Rattle.bytecode.specs.declared.instr.Instr.TheVariants as i
use Rattle.compile_plain.specs.Expressions.{exprs_code, pairs_code, last_code, last_end}
use Rattle.compile_plain.specs.Scopes.{names_of}
use Rattle.compile_plain.specs.Trees.{gathered, last_arg_code, last_arg_end}
use Rattle.compile_plain.proofs.CallTrees.{call_is}
use Rattle.compile_plain.proofs.Chains.{one_behind}
use Rattle.compile_plain.proofs.Counts.{count_is, count_pairs_is}
use Rattle.compile_plain.proofs.Lasts.{last_codes, last_ends}
use Rattle.compile_plain.proofs.exprs.+exprs.Goals as goal

pub put_last-returns-in-len1-up-clause-cells : goal.put_last-returns-in-len1-up-clause-cells
put_last-returns-in-len1-up-clause-cells t c =
    let last = last_codes (names_of c.args.site.now.scope.now) c.args.site.now.targets.raised c.args.block.now.end c.as_slice.result.now c.last-item.result c.in-len1-up.len_at_least c.last-item.is in
    let whole = last ∙ (ap (λ es. last_code (names_of c.args.site.now.scope.now) c.args.site.now.targets.raised c.args.block.now.end (expressions_of es)) c.as_slice.ensures ∙ sym (ap (last_arg_code (names_of c.args.site.now.scope.now) c.args.site.now.targets.raised c.args.block.now.end) (call_is c.args.call.now))) in
    subst (λ code. OnOk c.put_expr.result (c.put_expr.new.block.cells ≡ c.args.block.now.cells ++ code)) whole c.put_expr.ensures.cells

pub put_last-returns-in-len1-up-clause-end : goal.put_last-returns-in-len1-up-clause-end
put_last-returns-in-len1-up-clause-end t c =
    let last = last_ends (names_of c.args.site.now.scope.now) c.args.block.now.end c.as_slice.result.now c.last-item.result c.in-len1-up.len_at_least c.last-item.is in
    let whole = last ∙ (ap (λ es. last_end (names_of c.args.site.now.scope.now) c.args.block.now.end (expressions_of es)) c.as_slice.ensures ∙ sym (ap (last_arg_end (names_of c.args.site.now.scope.now) c.args.block.now.end) (call_is c.args.call.now))) in
    subst (λ end. OnOk c.put_expr.result (c.put_expr.new.block.end ≡ end)) whole c.put_expr.ensures.end

pub put_items-returns-clause-cells : goal.put_items-returns-clause-cells
put_items-returns-clause-cells t c =
    let all = c.in_ok-count.ensures ∙ (c.len.ensures ∙ sym (count_is c.args.items.now)) in
    subst (λ (code : List Cell). OnOk c.put.result (c.put.new.block.cells ≡ code))
    (one_behind c.args.site.now.targets.raised c.args.block.now.cells _ (exprs_code (names_of c.args.site.now.scope.now) c.args.site.now.targets.raised c.args.block.now.end (expressions_of c.args.items.now)) _ _ _ c.in_ok-put_exprs.ensures.cells (ap (λ es. exprs_code (names_of c.args.site.now.scope.now) c.args.site.now.targets.raised c.args.block.now.end (expressions_of es)) c.as_slice.ensures) (c.gathers.ensures ∙ ap (gathered c.args.is_tuple) all))
    c.put.ensures.cells

pub put_dict-returns-clause-cells : goal.put_dict-returns-clause-cells
put_dict-returns-clause-cells t c =
    let all = c.in_ok-count.ensures ∙ (c.len.ensures ∙ sym (count_pairs_is c.args.pairs.now)) in
    subst (λ (code : List Cell). OnOk c.put.result (c.put.new.block.cells ≡ code))
    (one_behind c.args.site.now.targets.raised c.args.block.now.cells _ (pairs_code (names_of c.args.site.now.scope.now) c.args.site.now.targets.raised c.args.block.now.end (pairs_of c.args.pairs.now)) _ _ _ c.in_ok-put_pairs.ensures.cells (ap (λ ps. pairs_code (names_of c.args.site.now.scope.now) c.args.site.now.targets.raised c.args.block.now.end (pairs_of ps)) c.as_slice.ensures) (ap (λ n. i.Dict n) all))
    c.put.ensures.cells
