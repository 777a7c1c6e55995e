use Rattle.std.proofs.Common.{◌≡◌, ◌∙◌, ap, subst, sym}
use Rattle.std.specs.Prelude.{IfOk}
use Rattle.py_tree.specs.Joined.{expressions_of}
use Rattle.compile_plain.specs.Expressions.{last_end}
use Rattle.compile_plain.specs.Scopes.{names_of}
use Rattle.compile_plain.specs.Trees.{last_arg_end}
use Rattle.compile_plain.proofs.CallTrees.{call_is}
use Rattle.compile_plain.proofs.Lasts.{last_ends}
use Rattle.compile_plain.proofs.ends.+ends.Goals as goal

pub end_of_last-returns-in-len1-up : goal.end_of_last-returns-in-len1-up
end_of_last-returns-in-len1-up t c =
    subst (λ v. IfOk c.end_of.result (λ end. end ≡ v)) (last_ends (names_of c.args.scope.now) c.args.place c.as_slice.result.now c.last-item.result c.in-len1-up.len_at_least c.last-item.is ∙ (ap (λ es. last_end (names_of c.args.scope.now) c.args.place (expressions_of es)) c.as_slice.ensures ∙ sym (ap (last_arg_end (names_of c.args.scope.now) c.args.place) (call_is c.args.call.now)))) c.end_of.ensures
