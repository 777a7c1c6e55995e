-- The loops that take trees off the stack.
use Rattle.std.proofs.Common.{◌≡◌, ℕ, suc, ◌+◌, ◌-◌, ◌<◌, List, [], ◌∷◌, ◌++◌, map, reverse, Option, Some, None, refl, sym, ap, ◌∙◌, arith}
use Rattle.std.proofs.lemmas.List.{reverse-append}
use Rattle.py_tree.specs.Syntax as x
use Rattle.py_tree.specs.Syntax.{Expression, Expressions, Pairs, Keywords}
use Rattle.py_tree.specs.Joined.{expression_of, expressions_of, pair_of, pairs_of, keyword_of, keywords_of}
use Rattle.py_tree.specs.declared.expression.Expr.{Expr}
use Rattle.py_tree.specs.declared.expression.Pair as code_pair
use Rattle.py_tree.specs.declared.expression.Keyword as code_keyword
use Rattle.py_phrases.specs.Emitted.{Taken, take_items, TakenPairs, take_pairs, TakenKeywords, take_keywords}
use Rattle.py_phrases.specs.Stacks.{pair_top, below_pair, keyword_in}
use Rattle.py_phrases.specs.Views.{top, rest}

items_next : (n i : ℕ) (es : Expressions) (a : Expr) (st : List Expr) → i < n → top st ≡ Some a → take_items (n - i) es (map expression_of st) ≡ take_items (n - (i + 1)) (x.more_expressions (expression_of a) es) (map expression_of (rest st))
items_next n i es a [] h e = absurd cc
items_next n i es a (b ∷ st) h e =
    let k : n - i ≡ suc (n - (i + 1)) = omega arith in
    let same : b ≡ a = cc in
    rw (k, same) refl

pub items_end : (n i : ℕ) (es : Expressions) (st : List Expr) → i < n → top st ≡ None → take_items (n - i) es (map expression_of st) ≡ None
items_end n i es [] h e = let k : n - i ≡ suc (n - (i + 1)) = omega arith in rw k refl
items_end n i es (b ∷ st) h e = absurd cc

pub items_loop : (n i : ℕ) (xs ys : List Expr) (a : Expr) (old new : List Expr) (total : Option Taken) → i < n → Some a ≡ top old → new ≡ rest old → ys ≡ xs ++ a ∷ []
    → take_items (n - i) (expressions_of (reverse xs)) (map expression_of old) ≡ total → take_items (n - (i + 1)) (expressions_of (reverse ys)) (map expression_of new) ≡ total
items_loop n i xs ys a old new total h e r q so =
    let back : reverse ys ≡ a ∷ reverse xs = ap reverse q ∙ reverse-append xs (a ∷ []) in
    rw (r, back) (sym (items_next n i (expressions_of (reverse xs)) a old h (sym e)) ∙ so)

pairs_next : (n i : ℕ) (ps : Pairs) (p : x.Pair) (st : List Expression) → i < n → pair_top st ≡ Some p → take_pairs (n - i) ps st ≡ take_pairs (n - (i + 1)) (x.more_pairs p ps) (below_pair st)
pairs_next n i ps p [] h e = absurd cc
pairs_next n i ps p (v ∷ []) h e = absurd cc
pairs_next n i ps p (v ∷ k ∷ st) h e =
    let j : n - i ≡ suc (n - (i + 1)) = omega arith in
    let same : x.Paired k v ≡ p = cc in
    rw j (ap (λ q. take_pairs (n - (i + 1)) (x.more_pairs q ps) st) same)

pub pairs_end : (n i : ℕ) (ps : Pairs) (st : List Expression) → i < n → pair_top st ≡ None → take_pairs (n - i) ps st ≡ None
pairs_end n i ps [] h e = let j : n - i ≡ suc (n - (i + 1)) = omega arith in rw j refl
pairs_end n i ps (v ∷ []) h e = let j : n - i ≡ suc (n - (i + 1)) = omega arith in rw j refl
pairs_end n i ps (v ∷ k ∷ st) h e = absurd cc

pub pairs_loop : (n i : ℕ) (xs ys : List code_pair.Pair) (a : code_pair.Pair) (old new : List Expression) (total : Option TakenPairs) → i < n → Some (pair_of a) ≡ pair_top old → new ≡ below_pair old → ys ≡ xs ++ a ∷ []
    → take_pairs (n - i) (pairs_of (reverse xs)) old ≡ total → take_pairs (n - (i + 1)) (pairs_of (reverse ys)) new ≡ total
pairs_loop n i xs ys a old new total h e r q so =
    let back : reverse ys ≡ a ∷ reverse xs = ap reverse q ∙ reverse-append xs (a ∷ []) in
    rw (r, back) (sym (pairs_next n i (pairs_of (reverse xs)) (pair_of a) old h (sym e)) ∙ so)

keywords_next : (n i : ℕ) (ks : Keywords) (p : x.Pair) (st : List Expression) → i < n → pair_top st ≡ Some p → take_keywords (n - i) ks st ≡ take_keywords (n - (i + 1)) (x.more_keywords (keyword_in p) ks) (below_pair st)
keywords_next n i ks p [] h e = absurd cc
keywords_next n i ks p (v ∷ []) h e = absurd cc
keywords_next n i ks p (v ∷ k ∷ st) h e =
    let j : n - i ≡ suc (n - (i + 1)) = omega arith in
    let same : x.Paired k v ≡ p = cc in
    rw j (ap (λ q. take_keywords (n - (i + 1)) (x.more_keywords (keyword_in q) ks) st) same)

pub keywords_end : (n i : ℕ) (ks : Keywords) (st : List Expression) → i < n → pair_top st ≡ None → take_keywords (n - i) ks st ≡ None
keywords_end n i ks [] h e = let j : n - i ≡ suc (n - (i + 1)) = omega arith in rw j refl
keywords_end n i ks (v ∷ []) h e = let j : n - i ≡ suc (n - (i + 1)) = omega arith in rw j refl
keywords_end n i ks (v ∷ k ∷ st) h e = absurd cc

pub keywords_loop : (n i : ℕ) (xs ys : List code_keyword.Keyword) (a : code_keyword.Keyword) (p : x.Pair) (old new : List Expression) (total : Option TakenKeywords) → i < n → Some p ≡ pair_top old → new ≡ below_pair old
    → keyword_of a ≡ keyword_in p → ys ≡ xs ++ a ∷ [] → take_keywords (n - i) (keywords_of (reverse xs)) old ≡ total → take_keywords (n - (i + 1)) (keywords_of (reverse ys)) new ≡ total
keywords_loop n i xs ys a p old new total h e r k q so =
    let back : reverse ys ≡ a ∷ reverse xs = ap reverse q ∙ reverse-append xs (a ∷ []) in
    rw (r, back) (ap (λ z. take_keywords (n - (i + 1)) (x.more_keywords z (keywords_of (reverse xs))) (below_pair old)) k ∙ sym (keywords_next n i (keywords_of (reverse xs)) p old h (sym e)) ∙ so)
