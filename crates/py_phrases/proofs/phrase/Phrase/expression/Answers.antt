use Rattle.std.proofs.Common.{◌≡◌, ℕ, List, ◌∷◌, ap, subst, ◌∙◌, arith}
use Rattle.py_phrases.specs.Emitted.{nestings, trees}
use Rattle.py_phrases.specs.declared.phrase.Built.TheVariants.{TooDeep}
use Rattle.py_phrases.specs.Views.{steps_of}
use Rattle.py_phrases.specs.Stacks.{BuildsTop}
use Rattle.py_phrases.proofs.Answering.{deep_is, shallow_is, nothing_is}
use Rattle.py_phrases.proofs.phrase.Phrase.expression.Goals as goal

pub returns-then-branch-gt-MAX_NESTING : goal.returns-then-branch-gt-MAX_NESTING
returns-then-branch-gt-MAX_NESTING c =
    let count = λ (k : ℕ) (o : List ℕ) (h : nestings (steps_of c.args.self.now.steps.items) ≡ k ∷ o). c.in_ok-nesting_of.ensures k o (ap (λ l. nestings (steps_of l)) c.deref.ensures.value ∙ h) in
    record { expression = deep_is c.args.self.now c.in_ok-nesting_of.field-0 count (omega (arith, c.if-branch-gt-MAX_NESTING.true)) }

pub returns-in-Some : goal.returns-in-Some
returns-in-Some c =
    let count = λ (k : ℕ) (o : List ℕ) (h : nestings (steps_of c.args.self.now.steps.items) ≡ k ∷ o). c.in_ok-nesting_of.ensures k o (ap (λ l. nestings (steps_of l)) c.deref.ensures.value ∙ h) in
    let top = subst (λ built. BuildsTop built (trees (steps_of c.args.self.now.steps.items))) c.in-Some.is (subst (λ l. BuildsTop c.in_ok-tree.field-0 (trees (steps_of l))) c.deref-2.ensures.value c.in_ok-tree.ensures) in
    record { expression = shallow_is c.args.self.now c.in_ok-nesting_of.field-0 count (omega (arith, c.if-branch-gt-MAX_NESTING.false)) c.in-Some.tree top }

pub returns-in-None : goal.returns-in-None
returns-in-None c =
    let top = subst (λ built. BuildsTop built (trees (steps_of c.args.self.now.steps.items))) c.in-None.is (subst (λ l. BuildsTop c.in_ok-tree.field-0 (trees (steps_of l))) c.deref-2.ensures.value c.in_ok-tree.ensures) in
    record { expression = nothing_is c.args.self.now TooDeep top }
