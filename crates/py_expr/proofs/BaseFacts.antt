-- The base of a class, as it is read.
use Rattle.std.proofs.Common.{◌≡◌, ◌∷◌, Option, Some, None, refl, sym, ap, subst, ◌∙◌, arith}
use Rattle.py_tree.specs.Syntax as syntax
use Rattle.py_tree.specs.Syntax.{Text, Expression}
use Rattle.py_tree.specs.Joined.{expression_of, maybe_of}
use Rattle.py_tree.specs.declared.expression.Expr.{Expr}
use Rattle.py_lexer.specs.declared.token.Token.TheVariants as token
use Rattle.py_phrases.specs.declared.phrase.Built.TheVariants.{Shallow}
use Rattle.py_phrases.specs.Tokens as t
use Rattle.py_phrases.specs.Grammar.{Tokens}
use Rattle.py_expr.specs.Lines as l
use Rattle.py_expr.specs.Lines.{Base}
use Rattle.py_expr.specs.LineEnds.{Anything}
use Rattle.py_expr.specs.Depth.{maybe_nesting}
use Rattle.py_expr.specs.Readings.{Same, IsBuilt, IsFound, BaseBehind}

none_built : IsBuilt {T = Option Expr} maybe_of maybe_nesting None (Shallow None)
none_built = (omega arith, refl)

pub colon_found : (s m : Tokens) → s ≡ t.colon ∷ m → IsFound Base Anything maybe_of maybe_nesting s (Shallow None) m
colon_found s m h =
    subst (λ y. IsFound Base Anything maybe_of maybe_nesting y (Shallow None) m) (sym h) (record { thing = None; stands = l.no_base; only = λ q z d i. only_none q z d; is_built = none_built }) where
      only_none : (q : Tokens) (z : Option Expression) → Base (t.colon ∷ m) q z → Same None z m q
      only_none q _ l.no_base = record { thing = refl; rest = refl }

pub empty_found : (s inner m : Tokens) → s ≡ t.left_paren ∷ inner → inner ≡ t.right_paren ∷ t.colon ∷ m → IsFound Base Anything maybe_of maybe_nesting s (Shallow None) m
empty_found s inner m h k =
    subst (λ y. IsFound Base Anything maybe_of maybe_nesting y (Shallow None) m) (sym (h ∙ ap (λ y. t.left_paren ∷ y) k)) (record { thing = None; stands = l.empty_base; only = λ q z d i. only_none q z d; is_built = none_built }) where
      only_none : (q : Tokens) (z : Option Expression) → Base (t.left_paren ∷ t.right_paren ∷ t.colon ∷ m) q z → Same None z m q
      only_none q _ l.empty_base = record { thing = refl; rest = refl }

pub named_found : (n : Text) (s m : Tokens) (e : Expr) → s ≡ t.right_paren ∷ t.colon ∷ m → expression_of e ≡ syntax.Name n → IsFound (BaseBehind n) Anything maybe_of maybe_nesting s (Shallow (Some e)) m
named_found n s m e h made =
    subst (λ y. IsFound (BaseBehind n) Anything maybe_of maybe_nesting y (Shallow (Some e)) m) (sym h)
    (record { thing = Some (syntax.Name n); stands = l.named_base; only = λ q z d i. only_named q z d; is_built = (omega arith, ap Some made) }) where
      only_named : (q : Tokens) (z : Option Expression) → BaseBehind n (t.right_paren ∷ t.colon ∷ m) q z → Same (Some (syntax.Name n)) z m q
      only_named q _ l.named_base = record { thing = refl; rest = refl }

pub dotted_found : (n b : Text) (s more rest m : Tokens) (e : Expr) → s ≡ t.dot ∷ more → more ≡ token.Name b ∷ rest → rest ≡ t.right_paren ∷ t.colon ∷ m → expression_of e ≡ syntax.Attr (syntax.Name n) b
    → IsFound (BaseBehind n) Anything maybe_of maybe_nesting s (Shallow (Some e)) m
dotted_found n b s more rest m e h k c made =
    subst (λ y. IsFound (BaseBehind n) Anything maybe_of maybe_nesting y (Shallow (Some e)) m) (sym (h ∙ ap (λ y. t.dot ∷ y) k ∙ ap (λ y. t.dot ∷ token.Name b ∷ y) c))
    (record { thing = Some (syntax.Attr (syntax.Name n) b); stands = l.dotted_base; only = λ q z d i. only_dotted q z d; is_built = (omega arith, ap Some made) }) where
      only_dotted : (q : Tokens) (z : Option Expression) → BaseBehind n (t.dot ∷ token.Name b ∷ t.right_paren ∷ t.colon ∷ m) q z → Same (Some (syntax.Attr (syntax.Name n) b)) z m q
      only_dotted q _ l.dotted_base = record { thing = refl; rest = refl }
