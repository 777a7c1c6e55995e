-- Grouping parentheses add nothing, and chains group to the left.
use Rattle.std.proofs.Common.{◌∷◌}
use Rattle.py_tree.specs.Syntax.{Expression}
use Rattle.py_lexer.specs.declared.token.Token.{Token}
use Rattle.py_phrases.specs.Grammar as g
use Rattle.py_phrases.specs.Grammar.{Tokens, Level, P, U, M, S, C, N, A, O, E, L, Spells}
use Rattle.py_phrases.specs.Ends.{IsEnd}
use Rattle.py_phrases.specs.Laws as law
use Rattle.py_phrases.specs.Laws.{Grouped, GroupedAlone, Chain, LeftGrouped}
use Rattle.py_phrases.proofs.Builds.{Same, one_front}
use Rattle.py_phrases.proofs.TargetPhrases.{primary_is}

-- ---- a phrase is a looser one too

sum_is : {s r : Tokens} {e : Expression} → Spells P s r e → Spells S s r e
sum_is d = g.a_term (g.a_factor (g.a_primary d))

negation_is : {s r : Tokens} {e : Expression} → Spells S s r e → Spells N s r e
negation_is d = g.affirmed (g.uncompared d)

expression_is : {s r : Tokens} {e : Expression} → Spells A s r e → Spells E s r e
expression_is d = g.unconditional (g.a_disjunct d)

stands : (k : Level) {s r : Tokens} {e : Expression} → Spells P s r e → Spells k s r e
stands P d = d
stands U d = g.a_primary d
stands M d = g.a_factor (g.a_primary d)
stands S d = sum_is d
stands C d = g.uncompared (sum_is d)
stands N d = negation_is (sum_is d)
stands A d = g.a_conjunct (negation_is (sum_is d))
stands O d = g.a_disjunct (g.a_conjunct (negation_is (sum_is d)))
stands E d = primary_is d
stands L d = g.single (primary_is d)

whole : (k : Level) {s r : Tokens} {e : Expression} → IsEnd k r → Spells E s r e → Spells k s r e
whole L h d = g.single d
whole E h d = d
whole _ h d = absurd h

-- ---- grouping parentheses

pub grouped : Grouped
grouped k s r e d = stands k (g.a_group d)

pub grouped_alone : GroupedAlone
grouped_alone k s r q d e y h z h' =
    let same : Same d e r q = one_front (grouped k s r d y) h z h' in
    (same.tree, same.rest)

-- ---- chains

chain_of_three : (i j : Level) (c l : Token) (f h : Expression → Expression → Expression) → Chain i j c f → Chain i j l h → (s m n r : Tokens) (a b d : Expression)
    → Spells i s (c ∷ m) a → Spells j m (l ∷ n) b → Spells j n r d → Spells E s r (h (f a b) d)
chain_of_three i j c l f h (law.of_products u) (law.of_products v) s m n r a b d y z w = expression_is (g.a_conjunct (negation_is (g.a_term (g.a_product v (g.a_product u y z) w))))
chain_of_three i j c l f h (law.of_sums u) (law.of_sums v) s m n r a b d y z w = expression_is (g.a_conjunct (negation_is (g.a_sum v (g.a_sum u y z) w)))
chain_of_three i j c l f h law.of_conjunctions law.of_conjunctions s m n r a b d y z w = expression_is (g.a_conjunction (g.a_conjunction y z) w)
chain_of_three i j c l f h law.of_disjunctions law.of_disjunctions s m n r a b d y z w = g.unconditional (g.a_disjunction (g.a_disjunction y z) w)

pub left_grouped : LeftGrouped
left_grouped i j c l f h u v k s m n r q a b d e y z w ends y' ends' =
    let same : Same (h (f a b) d) e r q = one_front (whole k ends (chain_of_three i j c l f h u v s m n r a b d y z w)) ends y' ends' in
    (same.tree, same.rest)
