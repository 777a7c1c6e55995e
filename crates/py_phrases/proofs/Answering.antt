-- What a phrase builds.
use Rattle.std.proofs.Common.{◌≡◌, ℕ, ◌≤◌, ◌<◌, List, [], ◌∷◌, Some, None, sym, ap, subst, ◌∙◌, arith}
use Rattle.py_tree.specs.Nesting.{nesting}
use Rattle.py_tree.specs.declared.expression.Expr.{Expr}
use Rattle.py_phrases.specs.declared.phrase.Phrase.{Phrase}
use Rattle.py_phrases.specs.declared.phrase.Built.{Built}
use Rattle.py_phrases.specs.declared.phrase.Built.TheVariants.{Shallow, TooDeep}
use Rattle.py_phrases.specs.Emitted.{trees, nestings}
use Rattle.py_phrases.specs.Views.{steps_of}
use Rattle.py_phrases.specs.Stacks.{BuildsTop}
use Rattle.py_phrases.specs.Phrases.{BuildsExpression}
use Rattle.py_phrases.proofs.Builds.{grows}
use Rattle.py_phrases.proofs.Nested.{nests}

module _ (phrase : Phrase) (n : ℕ) (count : (k : ℕ) (o : List ℕ) → nestings (steps_of phrase.steps.items) ≡ k ∷ o → n ≡ k) where
  pub deep_is : 200 < n → BuildsExpression phrase TooDeep
  deep_is h = λ k s r e x. let same : n ≡ nesting e = count (nesting e) [] (ap nestings x.steps ∙ nests x.spells []) in omega (arith, same, h)

  pub shallow_is : n ≤ 200 → (tree : Expr) → BuildsTop (Some tree) (trees (steps_of phrase.steps.items)) → BuildsExpression phrase (Shallow tree)
  shallow_is h tree b = λ k s r e x.
      let same : n ≡ nesting e = count (nesting e) [] (ap nestings x.steps ∙ nests x.spells []) in
      (omega (arith, same, h), subst (BuildsTop (Some tree)) (ap trees x.steps ∙ grows x.spells []) b)

pub nothing_is : (phrase : Phrase) (built : Built Expr) → BuildsTop None (trees (steps_of phrase.steps.items)) → BuildsExpression phrase built
nothing_is phrase built b = λ k s r e x. let none : e ∷ [] ≡ [] = sym (ap trees x.steps ∙ grows x.spells []) ∙ b in absurd cc
