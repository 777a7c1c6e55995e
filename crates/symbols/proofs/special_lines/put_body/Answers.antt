-- The function is its parts.
use Rattle.std.proofs.Common.{◌≡◌, ◌++◌, OnOk, map, subst, sym, ap, ◌∙◌}
use Rattle.py_tree.specs.Joined.{statements_of, param_of}
use Rattle.py_tree.specs.declared.statement.Function.{out-Function}
use Rattle.symbols.specs.SpecialNames.{scope_lines, body_lines, in_function_body}
use Rattle.symbols.specs.Contexts.{context_of}
use Rattle.symbols.proofs.Trees.{function_is}
use Rattle.symbols.proofs.special_lines.put_body.Goals as goal

pub returns : goal.returns
returns c =
    let k = context_of c.args.context.now in
    let params : c.as_slice.result.now ≡ (out-Function c.args.function.now).params = c.as_slice.ensures in
    let body : c.as_slice-body.result.now ≡ (out-Function c.args.function.now).body = c.as_slice-body.ensures in
    let is = (λ i. scope_lines (in_function_body k (map param_of (params i)) (statements_of (body i))) (statements_of (body i))) ∙ ap (body_lines k) (sym (function_is c.args.function.now)) in
    subst (λ lines. OnOk c.put_bound.result (c.put_bound.new.lines ≡ c.args.lines.now ++ lines)) is c.put_bound.ensures
