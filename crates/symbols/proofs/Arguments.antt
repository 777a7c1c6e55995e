-- The arguments of a call.
use Rattle.std.specs.Prelude.{◌||◌}
use Rattle.std.proofs.Common.{◌≡◌, ℕ, ◌+◌, ◌<◌, Bool, false, List, [], ◌∷◌, length, get_or, drop, refl, sym, ap, ◌∙◌, arith}
use Rattle.std.proofs.lemmas.List.{at_drop_more}
use Rattle.py_tree.specs.Joined.{expression_of, expressions_of, keywords_of}
use Rattle.py_tree.specs.declared.expression.Expr.{Expr}
use Rattle.py_tree.specs.declared.expression.Keyword.{Keyword}
use Rattle.py_tree.specs.Syntax as x
use Rattle.py_tree.specs.Syntax.{Expressions}
use Rattle.symbols.specs.declared.context.Use.{Use}
use Rattle.symbols.specs.SpecialNames.{Context, arguments_special, all_special_in, special, has_none, takes_none}

pub arguments_alike : (u : Use) (c : Context) (es : Expressions) → arguments_special u c u es ≡ all_special_in c u es
arguments_alike u c x.end_of_expressions = refl
arguments_alike u c (x.more_expressions e rest) = refl

-- an argument with which no name is at fault is passed
pub arguments_step : (here u : Use) (c : Context) (args : List Expr) (i : ℕ) (e : Expr) (b whole : Bool) → i < length args → e ≡ get_or args i e → b ≡ special c here (expression_of e) → b ≡ false
    → arguments_special here c u (expressions_of (drop i args)) ≡ whole → arguments_special u c u (expressions_of (drop (i + 1) args)) ≡ whole
arguments_step here u c args i e b whole lt is says none held =
    let rest = expressions_of (drop (i + 1) args) in
    let here_not : special c here (expression_of (get_or args i e)) ≡ false = ap (λ x. special c here (expression_of x)) (sym is) ∙ (sym says ∙ none) in
    let more : arguments_special here c u (expressions_of (drop i args)) ≡ (special c here (expression_of (get_or args i e)) || all_special_in c u rest) = at_drop_more (λ es. arguments_special here c u (expressions_of es)) args i e lt in
    arguments_alike u c rest ∙ (sym (ap (λ b. b || all_special_in c u rest) here_not) ∙ (sym more ∙ held))

-- a call that has some argument
pub has_none_some : (keys : List Keyword) → 0 < length keys → false ≡ has_none (keywords_of keys)
has_none_some [] lt = absurd (omega arith)
has_none_some (k ∷ ks) lt = refl

pub takes_none_some : (args : List Expr) (keys : List Keyword) → 0 < length args → false ≡ takes_none (expressions_of args) (keywords_of keys)
takes_none_some [] keys lt = absurd (omega arith)
takes_none_some (e ∷ es) keys lt = refl
