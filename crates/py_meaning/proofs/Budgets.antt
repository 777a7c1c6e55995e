-- More calls or turns than there is fuel change nothing: the actions do the same from every state with fuel below a bound.
use Rattle.std.proofs.Common.{None, arith, ap, subst, ◌∙◌}
use Rattle.std.proofs.lemmas.Bool.{leb-true}
use Rattle.std.specs.Prelude.{◌≡◌, refl, ℕ, zero, suc, ◌+◌, ◌-◌, ◌<◌, ◌≤◌, List, Option, Some, Bool, true, false, if◌then◌else◌, nat_le}
use Rattle.py_tree.specs.Syntax.{Text}
use Rattle.py_values.specs.declared.value.Home.{Home}
use Rattle.gradual_types.specs.Values as v
use Rattle.gradual_types.specs.Values.{Value}
use Rattle.gradual_types.specs.States.{State, Variable}
use Rattle.py_meaning.specs.Acts.{Act, Run, Gives, Halts, Raised, Refused, Spent, Flow, and_then, ◌>>=◌, ◌>>◌, halt, tick}
use Rattle.py_meaning.specs.Modules.{World, Setting, function_of}
use Rattle.py_meaning.specs.Exceptions.{rescued, unbound_behind}
use Rattle.py_meaning.specs.Iterables.{turn, while_true, over_list, over_range, listed_at}
use Rattle.py_meaning.specs.Runs.{back_in, meaning, module_scope}
use Rattle.py_meaning.specs.Laws.{end_of, TicksLowerFuel, CallsEndWithFuel, BodiesEndWithFuel, LoopsEndWithFuel}
use Rattle.py_meaning.proofs.Keeps as k
use Rattle.py_meaning.proofs.Keeps.{Keeps}
use Rattle.py_meaning.proofs.FuelFalls.{Falls}
use Rattle.py_meaning.proofs.RunLaws.{fuel_falls}
use Rattle.py_meaning.proofs.Steps as every
use Rattle.py_meaning.proofs.Steps.{Steps, Ticked, chosen, sees}
use Rattle.py_meaning.proofs.StepsOfLoops.{turns}
use Rattle.py_meaning.proofs.StepsOfStatements.{execs_all, functions}

-- with less fuel than that the second does what the first does, which never raises it
pub record Same (bound : ℕ) {A : Type 0} (m m' : Act A) : Type 0 where
  pub by : (s : State) → s.fuel < bound → m' s ≡ m s
  pub falls : Keeps Falls m

itself : {n : ℕ} {A : Type 0} {m : Act A} → Keeps Falls m → Same n m m
itself h = record { by = λ s below. refl; falls = h }

module _ (w : World) (n : ℕ) where
  bind : {A B : Type 0} {m m' : Act A} {f f' : A → Act B} → Same n m m' → ((a : A) → Same n (f a) (f' a)) → Same n (m >>= f) (m' >>= f')
  bind {A} {B} {m} {m'} {f} {f'} hm hf = record {
    by = λ s below. ap (λ r. and_then r f') (hm.by s below) ∙ go s below (m s) (hm.falls.by s);
    falls = k.binds (fuel_falls w) hm.falls (λ a. (hf a).falls);
  } where
    go : (s : State) → s.fuel < n → (r : Run A) → (end_of r).fuel ≤ s.fuel → and_then r f' ≡ and_then r f
    go s below (Gives t a) le = (hf a).by t (omega (arith, below, le))
    go s below (Halts t why) le = refl

  rescues : {body body' : Act Flow} {clauses clauses' : ℕ → Value → Act Flow} → Same n body body' → ((line : ℕ) (e : Value) → Same n (clauses line e) (clauses' line e))
      → Same n (λ s. rescued (body s) clauses) (λ s. rescued (body' s) clauses')
  rescues {body} {body'} {clauses} {clauses'} hb hc = record {
    by = λ s below. ap (λ r. rescued r clauses') (hb.by s below) ∙ go s below (body s) (hb.falls.by s);
    falls = k.rescues (fuel_falls w) hb.falls (λ line e. (hc line e).falls);
  } where
    go : (s : State) → s.fuel < n → (r : Run Flow) → (end_of r).fuel ≤ s.fuel → rescued r clauses' ≡ rescued r clauses
    go s below (Gives t ended) le = refl
    go s below (Halts t (Raised e)) le = (hc t.line e).by t (omega (arith, below, le))
    go s below (Halts t (Refused code)) le = refl
    go s below (Halts t Spent) le = refl

  unbinds : (c : Setting) (name : Option Text) {body body' : Act Flow} → Same n body body' → Same n (λ s. unbound_behind c name (body s)) (λ s. unbound_behind c name (body' s))
  unbinds c name hb = record { by = λ s below. ap (unbound_behind c name) (hb.by s below); falls = k.unbinds (fuel_falls w) c name hb.falls }

  frames : (locals : List Variable) {body body' : Act Value} → Same n body body'
      → Same n (λ s. back_in s (body (record s { locals = locals; depth = s.depth + 1 }))) (λ s. back_in s (body' (record s { locals = locals; depth = s.depth + 1 })))
  frames locals hb = record {
    by = λ s below. ap (back_in s) (hb.by (record s { locals = locals; depth = s.depth + 1 }) below);
    falls = k.frames (fuel_falls w) locals hb.falls;
  }

  pub steps : Steps w
  steps = record {
    both = λ A m m'. Same n m m';
    bind = bind;
    gives = λ a. itself (record { by = (fuel_falls w).stays });
    halts = λ why. itself (record { by = (fuel_falls w).stays });
    at_state = λ h. record { by = λ s below. (h s).by s below; falls = record { by = λ s. (h s).falls.by s } };
    rescues = rescues;
    unbinds = λ c name h. unbinds c name h;
    frames = λ locals h. frames locals h;
    pays = λ cost. itself (k.pays (fuel_falls w) cost);
    makes = λ content. itself (record { by = (fuel_falls w).makes content });
    writes = λ h i content. itself (k.writes (fuel_falls w) h i content);
    prints = λ text. itself (k.prints (fuel_falls w) text);
    binds = λ c name value. itself (k.sets_name (fuel_falls w) c c.scope.locals name value);
    sets_default = λ function param value. itself (record { by = (fuel_falls w).sets_default function param value });
    sets_line = λ c line. itself (k.sets_line (fuel_falls w) c c.scope.locals line);
    passes_on = λ line e. itself (record { by = (fuel_falls w).sets_line line });
    counts = itself (record { by = (fuel_falls w).counts });
  }

-- ---- a fuel of 1

abbrev paid : State → Bool → Run (Unit {0})
paid s enough = if enough then Gives (record s { fuel = s.fuel - 1 }) tt else Halts (record s { fuel = 0 }) Spent

-- behind it what is left is below a lower bound
ticked_same : (w : World) (n : ℕ) {A : Type 0} {m m' : Act A} → Same n m m' → Same (suc n) (tick >> m) (tick >> m')
ticked_same w n {A} {m} {m'} h = record {
  by = λ s below. go s below (nat_le 1 s.fuel) refl;
  falls = k.binds (fuel_falls w) (k.pays (fuel_falls w) 1) (λ a. h.falls);
} where
  go : (s : State) → s.fuel < suc n → (enough : Bool) → nat_le 1 s.fuel ≡ enough → and_then (paid s enough) (λ _. m') ≡ and_then (paid s enough) (λ _. m)
  go s below true e = let some = leb-true 1 s.fuel e in h.by (record s { fuel = s.fuel - 1 }) (omega (arith, below, some))
  go s below false e = refl

ticked : (w : World) (n : ℕ) → Ticked (steps w n) (steps w (suc n))
unfolding steps
ticked w n = record { by = ticked_same w n }

pub ticks_lower_fuel : TicksLowerFuel
ticks_lower_fuel s t e = by (nat_le 1 s.fuel) refl e where
  by : (enough : Bool) → nat_le 1 s.fuel ≡ enough → paid s enough ≡ Gives t (tt {0}) → t.fuel < s.fuel
  by true some e = let one = leb-true 1 s.fuel some in let left = ap (λ (r : Run (Unit {0})). (end_of r).fuel) e in omega (arith, one, left)
  by false some e = absurd cc

-- ---- calls

none_below : {A : Type 0} {m m' : Act A} → Keeps Falls m → Same zero m m'
none_below h = record { by = λ s below. absurd (omega (arith, below)); falls = h }

meanings : (w : World) (calls more m n : ℕ) (values : List Value) → Same calls (meaning w calls m n values) (meaning w (calls + more) m n values)
unfolding steps
meanings w zero more m n values = none_below (record { by = (fuel_falls w).stays })
meanings w (suc calls) more m n values =
    let one : suc (calls + more) ≡ suc calls + more = omega arith in
    subst (λ all. Same (suc calls) (meaning w (suc calls) m n values) (meaning w all m n values)) one (functions (ticked w calls) (meanings w calls more) m (function_of w m n) values)

pub calls_end_with_fuel : CallsEndWithFuel
calls_end_with_fuel w calls more m n values = (meanings w calls more m n values).by

pub bodies_end_with_fuel : BodiesEndWithFuel
unfolding steps
bodies_end_with_fuel w more m s = (execs_all (every.ticked (steps w (suc s.fuel))) (meanings w (suc s.fuel) more) (module_scope m) None w.own.tree).by s (omega arith)

-- ---- turns

no_turn : {m : Act Flow} → Same zero (halt Spent) m
no_turn = none_below (record { by = λ s. omega arith })

-- one more of the budget is one more of the sum
next_sum : (loop : ℕ → Act Flow) (n more : ℕ) → Same (suc n) (loop (suc n)) (loop (suc (n + more))) → Same (suc n) (loop (suc n)) (loop (suc n + more))
next_sum loop n more same = let one : suc (n + more) ≡ suc n + more = omega arith in subst (λ all. Same (suc n) (loop (suc n)) (loop all)) one same

module _ (w : World) {back : Act (Unit {0})} (hb : Keeps Falls back) where
  turned : {body : Value → Act Flow} → ((x : Value) → Keeps Falls (body x)) → (n : ℕ) {next next' : Act Flow} → Same n next next'
      → (x : Option Value) → Same (suc n) (turn back body next x) (turn back body next' x)
  unfolding steps
  turned h n hn x = turns (ticked w n) (itself hb) (λ y. itself (h y)) hn x

  whiles : {test : Act Bool} {body : Act Flow} → Keeps Falls test → Keeps Falls body → (n more : ℕ) → Same n (while_true back test body n) (while_true back test body (n + more))
  unfolding steps
  whiles ht h zero more = no_turn
  whiles {test} {body} ht h (suc n) more =
      next_sum (while_true back test body) n more (bind w (suc n) (itself ht) (λ goes_on.
      chosen (steps w (suc n)) goes_on (turned (λ x. h) n (whiles ht h n more) (Some v.Nil)) (itself (record { by = (fuel_falls w).stays }))))

  module _ {body : Value → Act Flow} (h : (x : Value) → Keeps Falls (body x)) where
    ranges : (item : ℕ → Option Value) (n more i : ℕ) → Same n (over_range back body item n i) (over_range back body item (n + more) i)
    ranges item zero more i = no_turn
    ranges item (suc n) more i = next_sum (λ budget. over_range back body item budget i) n more (turned h n (ranges item n more (suc i)) (item i))

    lists : (j : Home) (m n more i : ℕ) → Same n (over_list w j m back body n i) (over_list w j m back body (n + more) i)
    unfolding steps
    lists j m zero more i = no_turn
    lists j m (suc n) more i =
        next_sum (λ budget. over_list w j m back body budget i) n more
        (bind w (suc n) (sees (steps w (suc n)) j m) (λ a. turned h n (lists j m n more (suc i)) (listed_at i a)))

pub loops_end_with_fuel : LoopsEndWithFuel
loops_end_with_fuel w back body falls each = record {
  of_while = λ test tests n more. (whiles w kept {test = test} (record { by = tests }) (all v.Nil) n more).by;
  of_list = λ j m n more i. (lists w kept all j m n more i).by;
  of_range = λ item n more i. (ranges w kept all item n more i).by;
} where
  kept : Keeps Falls back
  kept = record { by = falls }

  all : (x : Value) → Keeps Falls (body x)
  all x = record { by = each x }
