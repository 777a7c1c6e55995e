-- What each step of an evaluation keeps, the whole keeps.
use Rattle.std.proofs.Common.{arith}
use Rattle.std.specs.Prelude.{◌≡◌, refl, ℕ, ◌+◌, ◌-◌, ◌≤◌, min, ◌^◌, List, [], ◌∷◌, ◌++◌, Option, Some, None, Bool, true, false, if◌then◌else◌, nat_le}
use Rattle.py_tree.specs.Syntax.{Text}
use Rattle.py_values.specs.declared.value.Home.{Home}
use Rattle.heap_seg.specs.declared.rules.Answer.{Answer}
use Rattle.heap_seg.specs.declared.rules.Answer.TheVariants as rules
use Rattle.gradual_types.specs.Values.{Value, Content}
use Rattle.gradual_types.specs.States.{State, Variable, with_value, with_default}
use Rattle.py_meaning.specs.Acts.{Act, Run, Gives, Halts, Raised, Refused, Spent, Flow, and_then, ◌>>=◌, ◌>>◌, pay}
use Rattle.py_meaning.specs.Modules.{World, Setting}
use Rattle.py_meaning.specs.Looks.{write, put_content, print_out, ask}
use Rattle.py_meaning.specs.Names.{set_name}
use Rattle.py_meaning.specs.Exceptions.{rescued, unbind, unbound_behind}
use Rattle.py_meaning.specs.Definitions.{set_line}
use Rattle.py_meaning.specs.Runs.{back_in}
use Rattle.py_meaning.specs.Laws.{end_of, InRuns}
use Rattle.py_meaning.proofs.Steps.{Steps}
use Rattle.py_meaning.proofs.StepsOfTexts.{reprs}
use Rattle.py_meaning.proofs.StepsOfStatements.{meanings, bodies, outer_calls}

-- a relation from a state to a later one that each step meets, in a world
pub record Steady (w : World) (R : State → State → Type 0) : Type 0 where
  pub stays : (s : State) → R s s
  pub joins : (a b c : State) → R a b → R b c → R a c
  pub spends : (fuel : ℕ) (s : State) → fuel ≤ s.fuel → R s (record s { fuel = fuel })
  pub makes : (content : Content) (s : State) → R s (record s { own = s.own ++ content ∷ [] })
  pub puts : (h : Home) (n : ℕ) (content : Content) (s : State) → w.mode.on_write h ≡ rules.Go → R s (put_content w h n content s)
  pub prints : (text : Text) (s : State) → w.mode.on_print ≡ rules.Go → R s (record s { output = s.output ++ text })
  pub counts : (s : State) → R s (record s { checks = min (s.checks + 1) (2 ^ 64 - 1) })
  pub binds_global : (name : Text) (value : Option Value) (s : State) → R s (record s { globals = with_value name value s.globals })
  pub binds_local : (name : Text) (value : Option Value) (s : State) → R s (record s { locals = with_value name value s.locals })
  pub sets_default : (function param : ℕ) (value : Value) (s : State) → R s (record s { defaults = with_default function param value s.defaults })
  pub sets_line : (line : ℕ) (s : State) → R s (record s { line = line })
  pub frames : (locals : List Variable) (s t : State) → R (record s { locals = locals; depth = s.depth + 1 }) t → R s (record t { locals = s.locals; depth = s.depth })

pub record Keeps (R : State → State → Type 0) {A : Type 0} (m : Act A) : Type 0 where
  pub by : (s : State) → R s (end_of (m s))

module _ {w : World} {R : State → State → Type 0} (k : Steady w R) where
  -- ---- joins

  pub binds : {A B : Type 0} {m : Act A} {f : A → Act B} → Keeps R m → ((a : A) → Keeps R (f a)) → Keeps R (m >>= f)
  binds {A} {B} {m} {f} hm hf = record { by = λ s. go s (m s) (hm.by s) } where
    go : (s : State) (r : Run A) → R s (end_of r) → R s (end_of (and_then r f))
    go s (Gives t a) h = k.joins s t _ h ((hf a).by t)
    go s (Halts t why) h = h

  pub rescues : {body : Act Flow} {clauses : ℕ → Value → Act Flow} → Keeps R body → ((line : ℕ) (e : Value) → Keeps R (clauses line e)) → Keeps R (λ s. rescued (body s) clauses)
  rescues {body} {clauses} hb hc = record { by = λ s. go s (body s) (hb.by s) } where
    go : (s : State) (r : Run Flow) → R s (end_of r) → R s (end_of (rescued r clauses))
    go s (Gives t ended) h = h
    go s (Halts t (Raised e)) h = k.joins s t _ h ((hc t.line e).by t)
    go s (Halts t (Refused code)) h = h
    go s (Halts t Spent) h = h

  unbinds_in : (c : Setting) (locals : Option (List Text)) (name : Option Text) (s : State) → R s (unbind (record c { scope = record (c.scope) { locals = locals } }) name s)
  unbinds_in c locals None s = k.stays s
  unbinds_in c None (Some name) s = k.binds_global name None s
  unbinds_in c (Some names) (Some name) s = k.binds_local name None s

  pub unbinds : (c : Setting) (name : Option Text) {body : Act Flow} → Keeps R body → Keeps R (λ s. unbound_behind c name (body s))
  unbinds c name {body} hb = record { by = λ s. go s (body s) (hb.by s) } where
    go : (s : State) (r : Run Flow) → R s (end_of r) → R s (end_of (unbound_behind c name r))
    go s (Gives t ended) h = k.joins s t _ h (unbinds_in c c.scope.locals name t)
    go s (Halts t (Raised e)) h = k.joins s t _ h (unbinds_in c c.scope.locals name t)
    go s (Halts t (Refused code)) h = h
    go s (Halts t Spent) h = h

  pub frames : (locals : List Variable) {body : Act Value} → Keeps R body → Keeps R (λ s. back_in s (body (record s { locals = locals; depth = s.depth + 1 })))
  frames locals {body} hb = record { by = λ s. go s (body (record s { locals = locals; depth = s.depth + 1 })) (hb.by (record s { locals = locals; depth = s.depth + 1 })) } where
    go : (s : State) (r : Run Value) → R (record s { locals = locals; depth = s.depth + 1 }) (end_of r) → R s (end_of (back_in s r))
    go s (Gives t value) h = k.frames locals s t h
    go s (Halts t why) h = k.frames locals s t h

  -- ---- primitives

  pub pays : (cost : ℕ) → Keeps R (pay cost)
  pays cost = record { by = λ s. go s (nat_le cost s.fuel) } where
    go : (s : State) (enough : Bool) → R s (end_of (if enough then Gives (record s { fuel = s.fuel - cost }) (tt {0}) else Halts (record s { fuel = 0 }) Spent))
    go s true = k.spends (s.fuel - cost) s (omega arith)
    go s false = k.spends 0 s (omega arith)

  -- what the rules let pass is owed where they do
  asked : {A : Type 0} (answer : Answer) {m : Act A} → (answer ≡ rules.Go → Keeps R m) → Keeps R (ask w answer >> m)
  asked rules.Go h = record { by = (h refl).by }
  asked (rules.Raise e) h = record { by = k.makes _ }
  asked (rules.Refuse code) h = record { by = k.stays }

  pub writes : (h : Home) (n : ℕ) (content : Content) → Keeps R (write w h n content)
  writes h n content = asked (w.mode.on_write h) (λ lets. record { by = λ s. k.puts h n content s lets })

  pub prints : (text : Text) → Keeps R (print_out w text)
  prints text = asked w.mode.on_print (λ lets. record { by = λ s. k.prints text s lets })

  pub sets_name : (c : Setting) (locals : Option (List Text)) (name : Text) (value : Option Value) → Keeps R (set_name (record c { scope = record (c.scope) { locals = locals } }) name value)
  sets_name c None name value = record { by = k.binds_global name value }
  sets_name c (Some names) name value = record { by = k.binds_local name value }

  pub sets_line : (c : Setting) (locals : Option (List Text)) (line : ℕ) → Keeps R (set_line (record c { scope = record (c.scope) { locals = locals } }) line)
  sets_line c None line = record { by = k.sets_line line }
  sets_line c (Some names) line = record { by = k.stays }

  -- ---- the whole

  unfoldable pub steps : Steps w
  steps = record {
    both = λ A m m'. Keeps R m;
    bind = binds;
    gives = λ a. record { by = k.stays };
    halts = λ why. record { by = k.stays };
    at_state = λ h. record { by = λ s. (h s).by s };
    rescues = rescues;
    unbinds = λ c name h. unbinds c name h;
    frames = λ locals h. frames locals h;
    pays = pays;
    makes = λ content. record { by = k.makes content };
    writes = writes;
    prints = prints;
    binds = λ c name value. sets_name c c.scope.locals name value;
    sets_default = λ function param value. record { by = k.sets_default function param value };
    sets_line = λ c line. sets_line c c.scope.locals line;
    passes_on = λ line e. record { by = k.sets_line line };
    counts = record { by = k.counts };
  }

  pub in_runs : InRuns w R
  unfolding steps
  in_runs = record {
    of_function = λ calls m n values. (meanings steps calls m n values).by;
    of_body = λ m. (bodies steps m).by;
    of_call = λ callee args. (outer_calls steps callee args).by;
    of_shown = λ callee args. (binds (outer_calls steps callee args) (reprs steps 100)).by;
  }
