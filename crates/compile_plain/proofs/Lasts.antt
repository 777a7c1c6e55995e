-- The last of several expressions, and its code.
use Rattle.std.proofs.Common.{◌≡◌, ◌≤◌, ◌-◌, ◌∙◌, ℕ, List, [], ◌∷◌, length, refl, sym, ap, arith}
use Rattle.std.specs.Prelude.{get_or}
use Rattle.py_tree.specs.Joined.{expression_of, expressions_of}
use Rattle.py_tree.specs.declared.expression.Expr.{Expr}
use Rattle.bytecode.specs.declared.instr.Handler.{Handler}
use Rattle.compile_plain.specs.Names.{Names}
use Rattle.compile_plain.specs.Expressions.{expr_code, expr_end, last_code, last_end}

abbrev last : Expr → List Expr → Expr
last e [] = e
last e (d ∷ es) = last d es

got : (e : Expr) (es : List Expr) (other : Expr) → get_or (e ∷ es) (length es) other ≡ last e es
got e [] other = refl
got e (d ∷ es) other = got d es other

last_got : (e : Expr) (es : List Expr) (f : Expr) → f ≡ get_or (e ∷ es) (length (e ∷ es) - 1) f → f ≡ last e es
last_got e es f is =
    let behind : length (e ∷ es) - 1 ≡ length es = omega arith in
    is ∙ (ap (λ n. get_or (e ∷ es) n f) behind ∙ got e es f)

end_at : (names : Names) (pc : ℕ) (e : Expr) (es : List Expr) → last_end names pc (expressions_of (e ∷ es)) ≡ expr_end names pc (expression_of (last e es))
end_at names pc e [] = refl
end_at names pc e (d ∷ es) = end_at names pc d es

code_at : (names : Names) (h : Handler) (pc : ℕ) (e : Expr) (es : List Expr) → last_code names h pc (expressions_of (e ∷ es)) ≡ expr_code names h pc (expression_of (last e es))
code_at names h pc e [] = refl
code_at names h pc e (d ∷ es) = code_at names h pc d es

pub last_ends : (names : Names) (pc : ℕ) (es : List Expr) (f : Expr) → 1 ≤ length es → f ≡ get_or es (length es - 1) f → expr_end names pc (expression_of f) ≡ last_end names pc (expressions_of es)
last_ends names pc [] f some is = absurd (omega (arith, some))
last_ends names pc (e ∷ es) f some is = ap (λ d. expr_end names pc (expression_of d)) (last_got e es f is) ∙ sym (end_at names pc e es)

pub last_codes : (names : Names) (h : Handler) (pc : ℕ) (es : List Expr) (f : Expr) → 1 ≤ length es → f ≡ get_or es (length es - 1) f → expr_code names h pc (expression_of f) ≡ last_code names h pc (expressions_of es)
last_codes names h pc [] f some is = absurd (omega (arith, some))
last_codes names h pc (e ∷ es) f some is = ap (λ d. expr_code names h pc (expression_of d)) (last_got e es f is) ∙ sym (code_at names h pc e es)
