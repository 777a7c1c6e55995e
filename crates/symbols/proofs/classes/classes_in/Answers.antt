-- One statement on.
use Rattle.std.proofs.Common.{◌≡◌, ◌∙◌, ◌+◌, ◌++◌, ◌∷◌, List, drop, ap, subst, sym}
use Rattle.std.specs.Borrow.{Bor}
use Rattle.std.proofs.lemmas.List.{drop_more}
use Rattle.py_tree.specs.Joined.{statement_of}
use Rattle.py_tree.specs.Syntax.{Statement}
use Rattle.py_tree.specs.declared.statement.Stmt.{Stmt}
use Rattle.symbols.specs.declared.outer.Outer.{Outer}
use Rattle.symbols.specs.Classes.{classes_behind}
use Rattle.symbols.specs.ClassViews.{found_at}
use Rattle.symbols.specs.Views.{seen}
use Rattle.symbols.proofs.classes.classes_in.Goals as goal

pub loop-statement-preserved : goal.loop-statement-preserved
loop-statement-preserved c =
    let i = c.loop-statement.statement-index in
    let scope = c.args.scope.now in
    let before = c.loop-statement.all in
    let after = c.in_ok-all.all in
    let first = c.new-all.result.outer in
    let s = c.statement-item.result in
    let rest = seen (drop (i + 1) scope) in
    let more : seen (drop i scope) ≡ statement_of s.now ∷ rest = ap seen (drop_more scope i s c.loop-statement-test.true) ∙ ap (λ (x : Bor Stmt). statement_of x.now ∷ rest) (sym c.statement-item.is) in
    let step : found_at after ++ classes_behind first (found_at after) rest ≡ found_at before ++ classes_behind first (found_at before) (statement_of s.now ∷ rest) =
    subst (λ (o : Outer). found_at after ++ classes_behind o (found_at after) rest ≡ found_at before ++ classes_behind o (found_at before) (statement_of s.now ∷ rest)) c.loop-statement.invariant.outer (c.in_ok-all.ensures.behind rest)
    in
    record {
      outer = c.in_ok-all.ensures.outer ∙ c.loop-statement.invariant.outer;
      behind = step ∙ (ap (λ (all : List Statement). found_at before ++ classes_behind first (found_at before) all) (sym more) ∙ c.loop-statement.invariant.behind);
    }
