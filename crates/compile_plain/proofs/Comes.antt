-- From where to where a block's run comes, as an action goes.
use Rattle.std.proofs.Common.{◌≡◌, ℕ, suc, ◌+◌, List, [], ◌∷◌, ◌++◌, length, Some, Bool, true, false, refl, sym, ap, ◌∙◌, subst, arith, append-nil}
use Rattle.std.specs.Prelude.{slice_get}
use Rattle.gradual_types.specs.Values.{Value}
use Rattle.gradual_types.specs.States.{State}
use Rattle.py_meaning.specs.Acts.{Act, Run, Gives, Halts, Halt, Flow, On, Returned, Broke, Continued, and_then, choose}
use Rattle.py_meaning.specs.Modules.{Setting}
use Rattle.py_meaning.specs.Calls.{Oracle}
use Rattle.bytecode.specs.declared.instr.Cell.{Cell}
use Rattle.bytecode.specs.declared.instr.Instr.{Instr}
use Rattle.bytecode.specs.declared.instr.Handler.{Handler}
use Rattle.bytecode.specs.Callings.{Calling}
use Rattle.bytecode.specs.Moves.{Open, Move, pops, act, left_by, unbound_by}
use Rattle.bytecode.specs.Blocks.{Config, At, Over, after, pushing, testing, asking, land, run_cell, Leads, here, next}
use Rattle.compile_plain.specs.declared.targets.Targets.{Targets}
use Rattle.compile_plain.specs.Cells.{cell}

-- ---- what runs give

-- what a run gives meets P
abbrev pub Meets : {A : Type 0} → (A → State → Type 0) → Run A → Type 0
Meets P (Gives s a) = P a s
Meets P (Halts s why) = Unit {0}

pub meets_then : {A B : Type 0} (P : A → State → Type 0) (Q : B → State → Type 0) (r : Run A) (k : A → Act B) → Meets P r → ((a : A) (s : State) → P a s → Meets Q (k a s)) → Meets Q (and_then r k)
meets_then P Q (Gives s a) k h i = i a s h
meets_then P Q (Halts s why) k h i = tt

pub meets_any : {A : Type 0} (r : Run A) → Meets (λ a s. Unit {0}) r
meets_any (Gives s a) = tt
meets_any (Halts s why) = tt

-- ---- operands

-- all values, the last on top
abbrev pub onto : List Value → List Value → List Value
onto [] st = st
onto (x ∷ xs) st = onto xs (x ∷ st)

pops_onto : (vs acc st : List Value) (k : ℕ) (go : List Value → List Value → Move) → pops (length vs + k) acc (onto vs st) go ≡ pops k (vs ++ acc) st go
pops_onto [] acc st k go = let e : 0 + k ≡ k = omega arith in ap (λ n. pops n acc st go) e
pops_onto (x ∷ vs) acc st k go =
    let e : suc (length vs) + k ≡ length vs + suc k = omega arith in
    ap (λ n. pops n acc (onto vs (x ∷ st)) go) e ∙ pops_onto vs acc (x ∷ st) (suc k) go

pub pops_all : (vs st : List Value) (n : ℕ) (go : List Value → List Value → Move) → length vs ≡ n → pops n [] (onto vs st) go ≡ go vs st
pops_all vs st n go e =
    let e' : n ≡ length vs + 0 = omega (arith, e) in
    ap (λ m. pops m [] (onto vs st) go) e' ∙ pops_onto vs [] st 0 go ∙ ap (λ l. go l st) (append-nil vs)

pub onto_joined : (vs ws st : List Value) → onto (vs ++ ws) st ≡ onto ws (onto vs st)
onto_joined [] ws st = refl
onto_joined (x ∷ vs) ws st = onto_joined vs ws (x ∷ st)

-- ---- runs of a block

module _ (c : Setting) (call : Oracle) (code : List Cell) where
  pub chain : {a b d : Config} → Leads c call code a b → Leads c call code b d → Leads c call code a d
  chain here m = m
  chain (next l) m = next (chain l m)

  -- from a configuration the code goes on with what a run gives, or goes out with what it halts for
  pub record Comes {A : Type 0} (a : Config) (go : A → State → Config) (out : State → Halt → Config) (r : Run A) : Type 0 where
    pub by : Leads c call code a (after go out r)

  -- one cell
  pub cell_step : {pc : ℕ} {st : List Value} {around : Open} {s : State} {d : Config} {x : Cell} → slice_get code pc ≡ Some x
      → Leads c call code (land c call x.handler pc around (act c x.instr pc st around s)) d → Leads c call code (At pc st around s) d
  cell_step {pc} {st} {around} {s} {d} {x} e l = next (subst (λ o. Leads c call code (run_cell c call o pc st around s) d) (sym e) l)

  -- one thing behind another
  pub both : {A B : Type 0} {a : Config} {f : A → State → Config} {g : B → State → Config} {out : State → Halt → Config} {k : A → Act B} (P : A → State → Type 0) (r : Run A)
      → Meets P r → Comes a f out r → ((x : A) (t : State) → P x t → Comes (f x t) g out (k x t)) → Comes a g out (and_then r k)
  both P (Gives t x) m d i = record { by = chain d.by (i x t m).by }
  both P (Halts t why) m d i = record { by = d.by }

  pub then_comes : {A B : Type 0} {a : Config} {f : A → State → Config} {g : B → State → Config} {out : State → Halt → Config} {k : A → Act B} {r : Run A}
      → Comes a f out r → ((x : A) (t : State) → Comes (f x t) g out (k x t)) → Comes a g out (and_then r k)
  then_comes {r = r} d i = both (λ x t. Unit {0}) r (meets_any r) d (λ x t _. i x t)

  -- a step that gives no value, and what is behind it
  pub then_on_comes : {B : Type 0} {a : Config} {f : Unit {0} → State → Config} {g : B → State → Config} {out : State → Halt → Config} {m : Act B} (r : Run (Unit {0}))
      → Comes a f out r → ((t : State) → Comes (f tt t) g out (m t)) → Comes a g out (and_then r (λ _. m))
  then_on_comes {m = m} r d i = then_comes {k = λ _. m} {r = r} d (λ u t. i t)

  pub from : {A : Type 0} {a b : Config} {go : A → State → Config} {out : State → Halt → Config} {r : Run A} → Leads c call code a b → Comes b go out r → Comes a go out r
  from l d = record { by = chain l d.by }

  -- a cell does what its action does
  pub acts : {A : Type 0} {pc : ℕ} {st : List Value} {around : Open} {s : State} {x : Cell} {go : A → State → Config} {out : State → Halt → Config} {r : Run A} → slice_get code pc ≡ Some x
      → Leads c call code (land c call x.handler pc around (act c x.instr pc st around s)) (after go out r) → Comes (At pc st around s) go out r
  acts e l = record { by = cell_step e l }

  -- a cell that takes some values off the stack
  pub takes_all : {A : Type 0} {pc : ℕ} {around : Open} {s : State} {h : Handler} {instr : Instr} {go : A → State → Config} {out : State → Halt → Config} {r : Run A}
      (vs st : List Value) (n : ℕ) (then' : List Value → List Value → Move) → slice_get code pc ≡ Some (cell h instr) → length vs ≡ n → act c instr pc (onto vs st) around s ≡ pops n [] (onto vs st) then'
      → Leads c call code (land c call h pc around (then' vs st)) (after go out r) → Comes (At pc (onto vs st) around s) go out r
  takes_all {A} {pc} {around} {s} {h} {instr} {go} {out} {r} vs st n then' e long is l =
      acts e (subst (λ m. Leads c call code (land c call h pc around m) (after go out r)) (sym (is ∙ pops_all vs st n then' long)) l)

  -- a call is asked for behind a step, and its answer is pushed
  pub asks_both : {A : Type 0} (p : ℕ) (st : List Value) (around : Open) (out : State → Halt → Config) (f : A → Act Calling) (g : A → Act Value) (r : Run A)
      → ((a : A) (t : State) → Leads c call code (after (asking c call out p st around) out (f a t)) (after (pushing p st around) out (g a t)))
      → Leads c call code (after (asking c call out p st around) out (and_then r f)) (after (pushing p st around) out (and_then r g))
  asks_both p st around out f g (Gives t a) i = i a t
  asks_both p st around out f g (Halts t why) i = here

  -- behind a test
  pub picks : {A : Type 0} {p q : ℕ} {st st' : List Value} {around : Open} {go : A → State → Config} {out : State → Halt → Config} (b : Bool) (m n : Act A) (s : State)
      → Comes (At p st around s) go out (m s) → Comes (At q st' around s) go out (n s) → Comes (testing p st q st' around b s) go out (choose b m n s)
  picks true m n s i j = i
  picks false m n s i j = j

  abbrev pub pushing_all : ℕ → List Value → Open → List Value → State → Config
  pushing_all p st around vs s = At p (onto vs st) around s

  -- ---- statements

  -- where a statement leads
  abbrev pub flowing : Targets → ℕ → Open → Flow → State → Config
  flowing k p around On s = At p [] around s
  flowing k p around (Returned x) s = Over (Gives (unbound_by c k.in_block around.held s) x)
  flowing k p around Broke s = At k.broke [] (left_by k.in_loop around) (unbound_by c k.in_loop around.held s)
  flowing k p around Continued s = At k.continued [] (left_by k.in_loop around) (unbound_by c k.in_loop around.held s)

  -- from the end of a part the code goes on to the end of the whole
  pub extends : {a : Config} {out : State → Halt → Config} (k : Targets) (around : Open) (p q : ℕ) (r : Run Flow) → Comes a (flowing k p around) out r
      → ((t : State) → Leads c call code (At p [] around t) (At q [] around t)) → Comes a (flowing k q around) out r
  extends k around p q (Gives t On) d l = record { by = chain d.by (l t) }
  extends k around p q (Gives t (Returned x)) d l = record { by = d.by }
  extends k around p q (Gives t Broke) d l = record { by = d.by }
  extends k around p q (Gives t Continued) d l = record { by = d.by }
  extends k around p q (Halts t why) d l = record { by = d.by }
