-- The arguments of calls and the parts of displays, as they come onto the stack and off it again.
use Rattle.std.proofs.Common.{◌≡◌, ℕ, zero, suc, ◌+◌, ◌*◌, List, [], ◌∷◌, ◌++◌, map, length, Some, None, refl, sym, ap, ◌∙◌, arith}
use Rattle.py_tree.specs.Syntax as x
use Rattle.py_tree.specs.Syntax.{Text, Expression, Expressions, Pairs, Keywords}
use Rattle.gradual_types.specs.Values.{Value}
use Rattle.gradual_types.specs.States.{State}
use Rattle.py_meaning.specs.Acts.{Run, Gives, Halts}
use Rattle.py_meaning.specs.Modules.{Setting}
use Rattle.py_meaning.specs.Arguments.{Argument}
use Rattle.py_meaning.specs.Calls.{Oracle}
use Rattle.py_meaning.specs.Expressions.{eval, eval_all, eval_pairs, eval_arguments, eval_keywords, in_turn}
use Rattle.bytecode.specs.Callings.{argument, named, arguments}
use Rattle.bytecode.specs.Moves.{pairs}
use Rattle.compile_plain.specs.Expressions.{count, count_pairs, keyword_names}
use Rattle.compile_plain.proofs.Comes.{Meets, meets_then, meets_any}

abbrev pub values_of : List Argument → List Value
values_of args = map (λ a. a.value) args

pub values_joined : (a b : List Argument) → values_of (a ++ b) ≡ values_of a ++ values_of b
values_joined [] b = refl
values_joined (x ∷ a) b = ap (λ l. x.value ∷ l) (values_joined a b)

-- so many arguments without a name
abbrev pub ArePositional : ℕ → List Argument → Type 0
ArePositional zero [] = Unit {0}
ArePositional (suc n) (a ∷ args) = (a ≡ argument None a.value) × ArePositional n args
ArePositional n args = ⊥

-- arguments of these names
abbrev pub AreNamed : List Text → List Argument → Type 0
AreNamed [] [] = Unit {0}
AreNamed (name ∷ names) (a ∷ args) = (a ≡ argument (Some name) a.value) × AreNamed names args
AreNamed names args = ⊥

abbrev pub AreShaped : ℕ → List Text → List Argument → Type 0
AreShaped n names args = (arguments n names (values_of args) ≡ args) × (length (values_of args) ≡ n + length names)

named_again : (names : List Text) (args : List Argument) → AreNamed names args → (named names (values_of args) ≡ args) × (length (values_of args) ≡ length names)
named_again [] [] h = (refl, refl)
named_again (name ∷ names) (a ∷ args) h =
    let rest = named_again names args h.1 in
    (ap (λ l. argument (Some name) a.value ∷ l) rest.0 ∙ ap (λ b. b ∷ args) (sym h.0), ap suc rest.1)
named_again [] (a ∷ args) h = absurd h
named_again (name ∷ names) [] h = absurd h

shaped_again : (n : ℕ) (names : List Text) (args keys : List Argument) → ArePositional n args → AreNamed names keys → AreShaped n names (args ++ keys)
shaped_again zero names [] keys h k = let all = named_again names keys k in (all.0, omega (arith, all.1))
shaped_again (suc n) names (a ∷ args) keys h k =
    let rest = shaped_again n names args keys h.1 k in
    (ap (λ l. argument None a.value ∷ l) rest.0 ∙ ap (λ b. b ∷ (args ++ keys)) (sym h.0), omega (arith, rest.1))
shaped_again zero names (a ∷ args) keys h k = absurd h
shaped_again (suc n) names [] keys h k = absurd h

-- a key, and its value above it
abbrev pub flat : List (Value × Value) → List Value
flat [] = []
flat (p ∷ ps) = p.0 ∷ p.1 ∷ flat ps

pub pairs_again : (ps : List (Value × Value)) → pairs (flat ps) ≡ ps
pairs_again [] = refl
pairs_again (p ∷ ps) = ap (λ rest. (p.0, p.1) ∷ rest) (pairs_again ps)

flat_long : (ps : List (Value × Value)) (n : ℕ) → length ps ≡ n → length (flat ps) ≡ n * 2
flat_long [] n e = omega (arith, e)
flat_long (p ∷ ps) zero e = absurd (omega (arith, e))
flat_long (p ∷ ps) (suc n) e = let rest = flat_long ps n (omega (arith, e)) in omega (arith, rest)

module _ (c : Setting) (call : Oracle) where
  -- as many values as expressions
  pub counted : (es : Expressions) (s : State) → Meets (λ vs t. length vs ≡ count es) (eval_all c call es s)
  counted x.end_of_expressions s = refl
  counted (x.more_expressions e rest) s =
      meets_then (λ a t. Unit {0}) (λ vs t. length vs ≡ suc (count rest)) (eval c call e s) _ (meets_any (eval c call e s)) (λ a t _.
      meets_then (λ vs u. length vs ≡ count rest) (λ vs u. length vs ≡ suc (count rest)) (eval_all c call rest t) _ (counted rest t) (λ vs u e'. ap suc e'))

  counted_pairs : (ps : Pairs) (s : State) → Meets (λ vs t. length vs ≡ count_pairs ps) (eval_pairs c call ps s)
  counted_pairs x.end_of_pairs s = refl
  counted_pairs (x.more_pairs (x.Paired key value) rest) s =
      meets_then (λ a t. Unit {0}) (λ vs t. length vs ≡ suc (count_pairs rest)) (eval c call key s) _ (meets_any (eval c call key s)) (λ k t _.
      meets_then (λ a t. Unit {0}) (λ vs t. length vs ≡ suc (count_pairs rest)) (eval c call value t) _ (meets_any (eval c call value t)) (λ a u _.
      meets_then (λ vs u. length vs ≡ count_pairs rest) (λ vs u. length vs ≡ suc (count_pairs rest)) (eval_pairs c call rest u) _ (counted_pairs rest u) (λ vs y e'. ap suc e')))

  met : {A : Type 0} (P Q : A → State → Type 0) (r : Run A) → Meets P r → ((a : A) (t : State) → P a t → Q a t) → Meets Q r
  met P Q (Gives t a) m i = i a t m
  met P Q (Halts t why) m i = tt

  pub flat_counted : (ps : Pairs) (s : State) → Meets (λ vs t. length (flat vs) ≡ count_pairs ps * 2) (eval_pairs c call ps s)
  flat_counted ps s =
      met (λ vs t. length vs ≡ count_pairs ps) (λ vs t. length (flat vs) ≡ count_pairs ps * 2) (eval_pairs c call ps s) (counted_pairs ps s) (λ vs t e. flat_long vs (count_pairs ps) e)

  positional_met : (es : Expressions) (s : State) → Meets (λ args t. ArePositional (count es) args) (eval_arguments c call es s)
  positional_met x.end_of_expressions s = tt
  positional_met (x.more_expressions e rest) s =
      meets_then (λ a t. Unit {0}) (λ args t. ArePositional (suc (count rest)) args) (eval c call e s) _ (meets_any (eval c call e s)) (λ a t _.
      meets_then (λ args u. ArePositional (count rest) args) (λ args u. ArePositional (suc (count rest)) args) (eval_arguments c call rest t) _ (positional_met rest t) (λ args u h. (refl, h)))

  named_met : (ks : Keywords) (s : State) → Meets (λ args t. AreNamed (keyword_names ks) args) (eval_keywords c call ks s)
  named_met x.end_of_keywords s = tt
  named_met (x.more_keywords (x.Named name e) rest) s =
      meets_then (λ a t. Unit {0}) (λ args t. AreNamed (name ∷ keyword_names rest) args) (eval c call e s) _ (meets_any (eval c call e s)) (λ a t _.
      meets_then (λ args u. AreNamed (keyword_names rest) args) (λ args u. AreNamed (name ∷ keyword_names rest) args) (eval_keywords c call rest t) _ (named_met rest t) (λ args u h. (refl, h)))

  -- the arguments of a call are made again of their values
  pub shaped_met : (es : Expressions) (ks : Keywords) (s : State) → Meets (λ args t. AreShaped (count es) (keyword_names ks) args) (in_turn (eval_arguments c call es) (eval_keywords c call ks) s)
  shaped_met es ks s =
      meets_then (λ args t. ArePositional (count es) args) (λ all t. AreShaped (count es) (keyword_names ks) all) (eval_arguments c call es s) _ (positional_met es s) (λ args t h.
      meets_then (λ keys u. AreNamed (keyword_names ks) keys) (λ all u. AreShaped (count es) (keyword_names ks) all) (eval_keywords c call ks t) _ (named_met ks t) (λ keys u k.
      shaped_again (count es) (keyword_names ks) args keys h k))
