-- Statements built of two parts.
use Rattle.std.proofs.Common.{◌≡◌, Option, ap, subst, ◌∙◌}
use Rattle.py_tree.specs.Syntax as x
use Rattle.py_tree.specs.Syntax.{Expression, Target}
use Rattle.py_tree.specs.Joined.{target_of, kind_of}
use Rattle.py_tree.specs.declared.expression.Expr.{Expr}
use Rattle.py_tree.specs.declared.expression.Target as tree
use Rattle.py_tree.specs.declared.operator.BinaryOp.{BinaryOp}
use Rattle.py_tree.specs.declared.statement.StmtKind as code
use Rattle.py_phrases.specs.declared.phrase.Built.{Built}
use Rattle.py_phrases.specs.declared.phrase.Built.TheVariants.{Shallow, TooDeep}
use Rattle.py_expr.specs.Readings.{IsBuilt}
use Rattle.py_expr.specs.Statements.{parts_of, parts_nesting, MakesOfBoth, Annotates, annotation_of, annotated_of, annotated_nesting}
use Rattle.py_expr.proofs.KindsOf.{assign_is, augment_is}

pub assigned : (parts : Built (tree.Target × Expr)) (t : tree.Target) (v : Expr) → parts ≡ Shallow (t, v) → MakesOfBoth x.Assign parts (Shallow (code.Assign t v))
assigned parts t v is g e h =
    let built : IsBuilt parts_of parts_nesting (g, e) (Shallow (t, v)) = subst (λ z. IsBuilt parts_of parts_nesting (g, e) z) is h in
    (built.0, assign_is t v ∙ ap (λ (p : Target × Expression). x.Assign p.0 p.1) built.1)

pub assigned_deep : (parts : Built (tree.Target × Expr)) → parts ≡ TooDeep → MakesOfBoth x.Assign parts TooDeep
assigned_deep parts is g e h = subst (λ z. IsBuilt parts_of parts_nesting (g, e) z) is h

pub augmented : (op : BinaryOp) (parts : Built (tree.Target × Expr)) (t : tree.Target) (v : Expr) → parts ≡ Shallow (t, v) → MakesOfBoth (λ g e. x.Augment g op e) parts (Shallow (code.Augment t op v))
augmented op parts t v is g e h =
    let built : IsBuilt parts_of parts_nesting (g, e) (Shallow (t, v)) = subst (λ z. IsBuilt parts_of parts_nesting (g, e) z) is h in
    (built.0, augment_is t op v ∙ ap (λ (p : Target × Expression). x.Augment p.0 op p.1) built.1)

pub augmented_deep : (op : BinaryOp) (parts : Built (tree.Target × Expr)) → parts ≡ TooDeep → MakesOfBoth (λ g e. x.Augment g op e) parts TooDeep
augmented_deep op parts is g e h = subst (λ z. IsBuilt parts_of parts_nesting (g, e) z) is h

pub annotated : (parts : Built (tree.Target × (Expr × Option Expr))) (t : tree.Target) (a : Expr × Option Expr) (made : code.StmtKind) → parts ≡ Shallow (t, a) → kind_of made ≡ x.Annotate (target_of t) (annotation_of a).0 (annotation_of a).1 → Annotates parts (Shallow made)
annotated parts t a made is same g k w h =
    let built : IsBuilt annotated_of annotated_nesting (g, (k, w)) (Shallow (t, a)) = subst (λ z. IsBuilt annotated_of annotated_nesting (g, (k, w)) z) is h in
    (built.0, same ∙ ap (λ (p : Target × (Expression × Option Expression)). x.Annotate p.0 p.1.0 p.1.1) built.1)

pub annotated_deep : (parts : Built (tree.Target × (Expr × Option Expr))) → parts ≡ TooDeep → Annotates parts TooDeep
annotated_deep parts is g k w h = subst (λ z. IsBuilt annotated_of annotated_nesting (g, (k, w)) z) is h
