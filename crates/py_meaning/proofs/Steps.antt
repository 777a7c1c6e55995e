-- A predicate on pairs of actions that evaluation is made of: where the joins and the primitives meet it, all of evaluation does. Two evaluations
-- are compared that differ in what their calls do.
use Rattle.std.specs.Prelude.{ℕ, ◌+◌, List, Option, Some, None, Bool, true, false, if◌then◌else◌}
use Rattle.py_tree.specs.Syntax.{Text}
use Rattle.py_values.specs.declared.exception.ExcKind.{ExcKind}
use Rattle.py_values.specs.declared.value.Home.{Home}
use Rattle.heap_seg.specs.declared.rules.Answer.{Answer}
use Rattle.heap_seg.specs.declared.rules.Answer.TheVariants as rules
use Rattle.gradual_types.specs.Values as v
use Rattle.gradual_types.specs.Values.{Value, Content}
use Rattle.gradual_types.specs.States.{State, Variable}
use Rattle.py_meaning.specs.Acts.{Act, Halt, Raised, Refused, Flow, ◌>>=◌, ◌>>◌, give, halt, choose, pay, tick}
use Rattle.py_meaning.specs.Modules.{World, Scope, Setting}
use Rattle.py_meaning.specs.Looks as seen
use Rattle.py_meaning.specs.Looks.{look, see_object, seen_content, objects_of, make, write, may_write, may_write_at, print_out, raise, type_error, or_raise, ask, count_check}
use Rattle.py_meaning.specs.Names.{set_name}
use Rattle.py_meaning.specs.Exceptions.{rescued, passed_on, unbound_behind}
use Rattle.py_meaning.specs.Definitions.{set_line, set_default}
use Rattle.py_meaning.specs.Runs.{back_in}

pub record Steps (w : World) : Type 1 where
  pub both : (A : Type 0) → Act A → Act A → Type 0
  -- the joins
  pub bind : {A B : Type 0} {m m' : Act A} {f f' : A → Act B} → both A m m' → ((a : A) → both B (f a) (f' a)) → both B (m >>= f) (m' >>= f')
  pub gives : {A : Type 0} (a : A) → both A (give a) (give a)
  pub halts : {A : Type 0} (why : Halt) → both A (halt why) (halt why)
  pub at_state : {A : Type 0} {f f' : State → Act A} → ((s : State) → both A (f s) (f' s)) → both A (λ s. f s s) (λ s. f' s s)
  pub rescues : {body body' : Act Flow} {clauses clauses' : ℕ → Value → Act Flow} → both Flow body body' → ((line : ℕ) (e : Value) → both Flow (clauses line e) (clauses' line e))
      → both Flow (λ s. rescued (body s) clauses) (λ s. rescued (body' s) clauses')
  pub unbinds : (c : Setting) (name : Option Text) {body body' : Act Flow} → both Flow body body' → both Flow (λ s. unbound_behind c name (body s)) (λ s. unbound_behind c name (body' s))
  pub frames : (locals : List Variable) {body body' : Act Value} → both Value body body'
      → both Value (λ s. back_in s (body (record s { locals = locals; depth = s.depth + 1 }))) (λ s. back_in s (body' (record s { locals = locals; depth = s.depth + 1 })))
  -- the primitives
  pub pays : (cost : ℕ) → both (Unit {0}) (pay cost) (pay cost)
  pub makes : (content : Content) → both Value (make w content) (make w content)
  pub writes : (h : Home) (n : ℕ) (content : Content) → both (Unit {0}) (write w h n content) (write w h n content)
  pub prints : (text : Text) → both (Unit {0}) (print_out w text) (print_out w text)
  pub binds : (c : Setting) (name : Text) (value : Option Value) → both (Unit {0}) (set_name c name value) (set_name c name value)
  pub sets_default : (function param : ℕ) (value : Value) → both (Unit {0}) (set_default function param value) (set_default function param value)
  pub sets_line : (c : Setting) (line : ℕ) → both (Unit {0}) (set_line c line) (set_line c line)
  pub passes_on : (line : ℕ) (e : Value) → both Flow (passed_on line e) (passed_on line e)
  pub counts : both (Unit {0}) count_check count_check

abbrev pub Both : {w : World} (q : Steps w) {A : Type 0} → Act A → Act A → Type 0
Both q {A} m m' = q.both A m m'

-- of an action that calls nothing
abbrev pub Kept : {w : World} (q : Steps w) {A : Type 0} → Act A → Type 0
Kept q m = Both q m m

-- what the first predicate says of an action, the second says of it behind a fuel of 1
pub record Ticked {w : World} (p q : Steps w) : Type 1 where
  pub by : {A : Type 0} {m m' : Act A} → Both p m m' → Both q (tick >> m) (tick >> m')

-- in a world, where code of that scope is run
abbrev pub at : World → Scope → Setting
at w k = record { world = w; scope = k }

module _ {w : World} (q : Steps w) where
  -- ---- joins

  pub seq : {A B : Type 0} {m m' : Act A} {n n' : Act B} → Both q m m' → Both q n n' → Both q (m >> n) (m' >> n')
  seq hm hn = q.bind hm (λ a. hn)

  pub chosen : {A : Type 0} {m m' n n' : Act A} (b : Bool) → Both q m m' → Both q n n' → Both q (choose b m n) (choose b m' n')
  chosen true hm hn = hm
  chosen false hm hn = hn

  pub if_kept : {A : Type 0} {m n : Act A} (b : Bool) → Kept q m → Kept q n → Kept q (if b then m else n)
  if_kept true hm hn = hm
  if_kept false hm hn = hn

  -- ---- exceptions and the rules

  pub raises : {A : Type 0} (k : ExcKind) → Kept q (raise {A = A} w k)
  raises k = q.bind (q.makes _) (λ e. q.halts (Raised e))

  pub errs : {A : Type 0} → Kept q (type_error {A = A} w)
  errs = raises _

  pub or_raises : {A : Type 0} (k : ExcKind) (a : Option A) → Kept q (or_raise w k a)
  or_raises k None = raises k
  or_raises k (Some a) = q.gives a

  pub asks : (a : Answer) → Kept q (ask w a)
  asks rules.Go = q.gives tt
  asks (rules.Raise k) = raises k
  asks (rules.Refuse code) = q.halts (Refused code)

  pub may_write_kept : (h : Home) → Kept q (may_write w h)
  may_write_kept h = asks (w.mode.on_write h)

  pub may_write_at_kept : (h : Option Home) → Kept q (may_write_at w h)
  may_write_at_kept None = q.gives tt
  may_write_at_kept (Some h) = may_write_kept h

  -- ---- looks

  pub sees : (h : Home) (n : ℕ) → Kept q (see_object w h n)
  sees h n = q.at_state (λ s. q.gives (seen_content h n _))

  pub looks : (x : Value) → Kept q (look w x)
  looks (v.Object h n) = sees h n
  looks (v.Host m n) = seq (asks w.mode.on_look) (q.gives seen.Nil)
  looks _ = q.gives _

  pub ticked : Ticked q q
  ticked = record { by = seq (q.pays 1) }
