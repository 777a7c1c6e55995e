-- What a phrase that was found at the front of tokens is, and what is built of it.
use Rattle.std.specs.Prelude.{◌≡◌, ◌≤◌, ◌<◌, [], Option, Some, None}
use Rattle.py_tree.specs.Syntax.{Expression, Target}
use Rattle.py_tree.specs.Nesting.{nesting}
use Rattle.py_tree.specs.Joined.{expression_of, target_of}
use Rattle.py_tree.specs.declared.expression.Expr.{Expr}
use Rattle.py_tree.specs.declared.expression.Target as code
use Rattle.py_phrases.specs.declared.phrase.Phrase.{Phrase}
use Rattle.py_phrases.specs.declared.phrase.Built.{Built}
use Rattle.py_phrases.specs.declared.phrase.Built.TheVariants.{Shallow, TooDeep}
use Rattle.py_phrases.specs.Grammar.{Tokens, Level, L, Spells}
use Rattle.py_phrases.specs.Targets.{Assigned, target_nesting}
use Rattle.py_phrases.specs.Ends.{IsEnd}
use Rattle.py_phrases.specs.Emitted.{emit}
use Rattle.py_phrases.specs.Views.{steps_of}

-- the phrase is one of level k at the front of s, spells e, and r follows it
pub record Is (phrase : Phrase) (k : Level) (s r : Tokens) (e : Expression) : Type 0 where
  pub spells : Spells k s r e
  pub ends : IsEnd k r
  pub rest : phrase.rest.now ≡ r
  -- its reading, as the phrase keeps it
  pub steps : steps_of phrase.steps.items ≡ emit spells []

-- exactly where a phrase of level k stands at the front of s and ends where such a phrase may end, it is found
abbrev pub AtFront : Level → Tokens → Option Phrase → Type 0
AtFront k s (Some phrase) = (e : Expression) × Is phrase k s phrase.rest.now e
AtFront k s None = (r : Tokens) (e : Expression) → Spells k s r e → IsEnd k r → ⊥

-- the tree of e exactly where e is nested at most 200 deep
abbrev pub IsExpression : Expression → Built Expr → Type 0
IsExpression e (Shallow tree) = (nesting e ≤ 200) × (expression_of tree ≡ e)
IsExpression e TooDeep = 200 < nesting e

abbrev pub BuildsExpression : Phrase → Built Expr → Type 0
BuildsExpression phrase built = (k : Level) (s r : Tokens) (e : Expression) → Is phrase k s r e → IsExpression e built

-- exactly where a target stands at the front of s and r follows it, it is built, where it is nested at most 200 deep
abbrev pub IsTarget : Tokens → Tokens → Option (Built code.Target) → Type 0
IsTarget s r (Some (Shallow tree)) = Assigned s r (target_of tree) × (target_nesting (target_of tree) ≤ 200)
IsTarget s r (Some TooDeep) = (g : Target) × Assigned s r g × (200 < target_nesting g)
IsTarget s r None = (g : Target) → Assigned s r g → ⊥

abbrev pub BuildsTarget : Phrase → Option (Built code.Target) → Type 0
BuildsTarget phrase built = (s r : Tokens) (e : Expression) → Is phrase L s r e → IsTarget s r built
