-- No definition of the language: what is known of a thing that was read at the front of tokens.
use Rattle.std.specs.Prelude.{◌≡◌, ◌≤◌, ◌<◌, ℕ, List, ◌∷◌, Option, Some, None, Result, Ok, Err}
use Rattle.std.specs.declared.alloc.AllocError.{AllocError}
use Rattle.py_phrases.specs.declared.phrase.Built.{Built}
use Rattle.py_phrases.specs.declared.phrase.Built.TheVariants.{Shallow, TooDeep}
use Rattle.py_expr.specs.declared.found.Found.{Found}
use Rattle.py_tree.specs.Syntax.{Text, Expression, Target, Param}
use Rattle.py_phrases.specs.Tokens as t
use Rattle.py_phrases.specs.Grammar.{Tokens, Spells, E, L}
use Rattle.py_lexer.specs.declared.token.Token.TheVariants as token
use Rattle.py_expr.specs.Lines.{Parameters, Base}
use Rattle.py_phrases.specs.Targets.{Names}

-- the same thing, with the same behind it
pub record Same {A : Type 0} (a b : A) (r q : Tokens) : Type 0 where
  pub thing : a ≡ b
  pub rest : r ≡ q

-- what was built stands for y, where y is nested at most 200 deep
abbrev pub IsBuilt : {T Y : Type 0} → (T → Y) → (Y → ℕ) → Y → Built T → Type 0
IsBuilt view nesting y (Shallow t) = (nesting y ≤ 200) × (view t ≡ y)
IsBuilt view nesting y TooDeep = 200 < nesting y

-- at the front of s stands y, r follows it, and nothing else of its kind stands there with an end behind it
pub record IsFound {T Y : Type 0} (Stands : Tokens → Tokens → Y → Type 0) (ends : Tokens → Type 0) (view : T → Y) (nesting : Y → ℕ) (s : Tokens) (tree : Built T) (r : Tokens) : Type 0 where
  pub thing : Y
  pub stands : Stands s r thing
  pub only : (q : Tokens) (z : Y) → Stands s q z → ends q → Same thing z r q
  pub is_built : IsBuilt view nesting thing tree

-- what is found, or that nothing of that kind stands there with an end behind it
abbrev pub FoundAt : {T Y : Type 0} → (Tokens → Tokens → Y → Type 0) → (Tokens → Type 0) → (T → Y) → (Y → ℕ) → Tokens → Option (Found T) → Type 0
FoundAt Stands ends view nesting s (Some found) = IsFound Stands ends view nesting s found.built found.rest.now
FoundAt Stands ends view nesting s None = (q : Tokens) (z : _) → Stands s q z → ends q → ⊥

-- ---- with the token behind it

abbrev pub BeforeIn : Tokens → Tokens → Target → Type 0
BeforeIn s r g = Names s (t.in_ ∷ r) g

abbrev pub InParentheses : Tokens → Tokens → Target → Type 0
InParentheses s r g = Names (t.left_paren ∷ s) (t.in_ ∷ r) g

abbrev pub BeforeColon : Tokens → Tokens → Expression → Type 0
BeforeColon s r e = Spells E s (t.colon ∷ r) e

abbrev pub BeforeParen : Tokens → Tokens → List Param → Type 0
BeforeParen s r ps = Parameters s (t.right_paren ∷ r) ps

abbrev pub BaseBehind : Text → Tokens → Tokens → Option Expression → Type 0
BaseBehind name s r b = Base (t.left_paren ∷ token.Name name ∷ s) r b

abbrev pub ListBeforeColon : Tokens → Tokens → Expression → Type 0
ListBeforeColon s r e = Spells L s (t.colon ∷ r) e

-- ---- what is built of what was built

abbrev pub built_on : {A B : Type 0} → (A → B) → Built A → Built B
built_on make (Shallow a) = Shallow (make a)
built_on make TooDeep = TooDeep

-- both, where neither is too deep
abbrev pub both_built : {A B : Type 0} → Built A → Built B → Built (A × B)
both_built (Shallow a) second = built_on (λ b. (a, b)) second
both_built TooDeep second = TooDeep

-- what was built, with what was to be read behind it
abbrev pub IsNext : {A B : Type 0} → Built A → Result (Option (Found B)) AllocError → Option (Found (A × B)) → Type 0
IsNext thing (Err error) found = ⊥
IsNext thing (Ok None) found = found ≡ None
IsNext thing (Ok (Some next)) None = ⊥
IsNext thing (Ok (Some next)) (Some found) = (found.built ≡ both_built thing next.built) × (found.rest.now ≡ next.rest.now)

-- what was built, where `)` follows
abbrev pub IsClosed : {T : Type 0} → Built T → Tokens → Option (Found T) → Type 0
IsClosed built s None = (r : Tokens) → s ≡ t.right_paren ∷ r → ⊥
IsClosed built s (Some found) = (found.built ≡ built) × (s ≡ t.right_paren ∷ found.rest.now)
