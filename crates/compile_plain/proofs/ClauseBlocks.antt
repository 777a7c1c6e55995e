-- Raising, and the clauses of a `try`.
use Rattle.std.proofs.Common.{◌≡◌, ℕ, ◌+◌, List, [], ◌∷◌, Option, Some, None, Bool, true, false, refl, sym, ap, subst}
use Rattle.std.specs.Prelude.{slice_get}
use Rattle.py_tree.specs.Syntax.{Text}
use Rattle.py_values.specs.declared.class_id.ClassId.{ClassId}
use Rattle.gradual_types.specs.declared.py_type.PyType.{PyType}
use Rattle.gradual_types.specs.Values.{Value}
use Rattle.gradual_types.specs.States.{State}
use Rattle.py_meaning.specs.Acts.{Act, Run, Gives, Halts, Halt, Raised, Refused, Spent, Flow, On, Returned, Broke, Continued, and_then, ◌>>=◌, ◌>>◌, give, halt, tick, choose}
use Rattle.py_meaning.specs.Modules.{World, Setting, ModuleText, text_of}
use Rattle.py_meaning.specs.Classes.{is_exception}
use Rattle.py_meaning.specs.Looks as seen
use Rattle.py_meaning.specs.Looks.{Seen, look, type_error}
use Rattle.py_meaning.specs.Names.{set_name}
use Rattle.py_meaning.specs.Calls.{Oracle, construct}
use Rattle.py_meaning.specs.Exceptions.{raised_by, raised_again, rescued, bind_some, unbound_behind, in_clause}
use Rattle.bytecode.specs.declared.instr.Cell.{Cell}
use Rattle.bytecode.specs.declared.instr.Handler.{Handler}
use Rattle.bytecode.specs.declared.instr.Instr.TheVariants as i
use Rattle.bytecode.specs.declared.instr.Variable.{Variable}
use Rattle.bytecode.specs.Callings.{Made, Answered, ask_exception}
use Rattle.bytecode.specs.Moves.{Caught, Open, holding, innermost, unbound, set_caught}
use Rattle.bytecode.specs.Moves as moves
use Rattle.bytecode.specs.Blocks.{Config, At, thrown, after, going, pushing, asking, Leads, here}
use Rattle.compile_plain.specs.declared.targets.Targets.{Targets}
use Rattle.compile_plain.specs.Names.{Names, maybe_variable}
use Rattle.compile_plain.specs.Cells.{cell, in_clauses, in_try}
use Rattle.compile_plain.proofs.Comes.{Comes, chain, then_on_comes, from, acts, cell_step, flowing, extends}
use Rattle.compile_plain.proofs.Sites.{site, names_at, sets, unsets}

module _ (w : World) (m : ℕ) (t : ModuleText) (text : text_of w m ≡ Some t) (class : Option ℕ) (locals : Option (List Text)) (result : PyType) (call : Oracle) (code : List Cell) where
  abbrev c : Setting
  c = site w m class locals result

  abbrev names : Names
  names = names_at t class locals

  -- ---- `raise`

  module _ (go : Flow → State → Config) (h : Handler) (pc : ℕ) (around : Open) (at_make : slice_get code pc ≡ Some (cell h i.Make)) (at_throw : slice_get code (pc + 1) ≡ Some (cell h i.Throw)) where
    abbrev out : State → Halt → Config
    out = thrown c h around

    abbrev Throws : Value → Seen → State → Type 0
    Throws x a s = Leads c call code (after (asking c call out (pc + 1) [] around) out (ask_exception w x a s)) (after go out (raised_by c call x a s))

    made_throws : (r : Run Value) → Leads c call code (after (pushing (pc + 1) [] around) out r) (after go out (and_then r (λ made. halt (Raised made))))
    made_throws (Gives s made) = cell_step c call code at_throw here
    made_throws (Halts s why) = here

    paid_throws : (k : ClassId) (r : Run (Unit {0})) → Leads c call code (after (asking c call out (pc + 1) [] around) out (and_then r (λ _. give (Made k)))) (after go out (and_then (and_then r (λ _. construct c call k [])) (λ made. halt (Raised made))))
    paid_throws k (Gives s u) = made_throws (construct c call k [] s)
    paid_throws k (Halts s why) = here

    class_throws : (k : ClassId) (s : State) (b : Bool)
        → Leads c call code (after (asking c call out (pc + 1) [] around) out (choose b (tick >> give (Made k)) (type_error w) s)) (after go out (choose b (tick >> construct c call k [] >>= λ made. halt (Raised made)) (type_error w) s))
    class_throws k s true = paid_throws k (tick s)
    class_throws k s false = here

    instance_throws : (x : Value) (s : State) (b : Bool)
        → Leads c call code (after (asking c call out (pc + 1) [] around) out (choose b (give (Answered x)) (type_error w) s)) (after go out (choose b (halt (Raised x)) (type_error w) s))
    instance_throws x s true = cell_step c call code at_throw here
    instance_throws x s false = here

    throws : (x : Value) (a : Seen) (s : State) → Throws x a s
    throws x (seen.Class k) s = class_throws k s (is_exception w k)
    throws x (seen.Instance h n k slots) s = instance_throws x s (is_exception w k)
    throws x seen.Nil s = here
    throws x (seen.Truth b) s = here
    throws x (seen.Int n) s = here
    throws x (seen.Prim64 n) s = here
    throws x (seen.PrimBool b) s = here
    throws x (seen.Points points) s = here
    throws x (seen.Tuple vs) s = here
    throws x (seen.Range start stop step) s = here
    throws x (seen.Bound receiver method) s = here
    throws x (seen.Listed h n vs) s = here
    throws x (seen.Mapped h n es) s = here
    throws x (seen.Function m n) s = here
    throws x (seen.Module m) s = here
    throws x (seen.BuiltIn b) s = here
    throws x seen.Nowhere s = here

    looked_throws : (x : Value) (r : Run Seen) → Leads c call code (after (asking c call out (pc + 1) [] around) out (and_then r (ask_exception w x))) (after go out (and_then r (raised_by c call x)))
    looked_throws x (Gives s a) = throws x a s
    looked_throws x (Halts s why) = here

    pub raises : (x : Value) (s : State) → Comes c call code (At pc (x ∷ []) around s) go out ((look w x >>= raised_by c call x) s)
    raises x s = acts c call code at_make (looked_throws x (look w x s))

  -- what the innermost clause holds
  again_throws : (go : Flow → State → Config) (go' : Value → State → Config) (out : State → Halt → Config) (o : Option Value) (s : State) → Leads c call code (after go' out (moves.again w o s)) (after go out (raised_again w o s))
  again_throws go go' out None s = here
  again_throws go go' out (Some e) s = here

  pub raises_again : (k : Targets) (pc : ℕ) (around : Open) (held : Option Value) (s : State) → innermost around.held ≡ held → slice_get code pc ≡ Some (cell k.raised i.ThrowAgain)
      → Comes c call code (At pc [] around s) (flowing c call code k (pc + 1) around) (thrown c k.raised around) (raised_again w held s)
  raises_again k pc around held s is at =
      acts c call code at (subst (λ o. Leads c call code (after (pushing (pc + 1) [] around) (thrown c k.raised around) (moves.again w o s)) (after (flowing c call code k (pc + 1) around) (thrown c k.raised around) (raised_again w held s)))
      (sym is) (again_throws (flowing c call code k (pc + 1) around) (pushing (pc + 1) [] around) (thrown c k.raised around) held s))

  -- ---- `try`

  -- a body, and the clauses for what it raises
  pub rescues_do : {a : Config} (k : Targets) (around : Open) (b end : ℕ) (r : Run Flow) (clauses : ℕ → Value → Act Flow) → slice_get code b ≡ Some (cell k.raised (i.Jump end))
      → Comes c call code a (flowing c call code (in_try k (b + 1)) b around) (thrown c (in_try k (b + 1)).raised around) r
      → ((raised : ℕ) (e : Value) (y : State) → Comes c call code (At (b + 1) [] (holding (record { exception = e; line = raised; variable = None }) around) y) (flowing c call code k end around) (thrown c k.raised around) (clauses raised e y))
      → Comes c call code a (flowing c call code k end around) (thrown c k.raised around) (rescued r clauses)
  rescues_do k around b end (Gives y On) clauses e d j = record { by = chain c call code d.by (cell_step c call code e here) }
  rescues_do k around b end (Gives y (Returned x)) clauses e d j = record { by = d.by }
  rescues_do k around b end (Gives y Broke) clauses e d j = record { by = d.by }
  rescues_do k around b end (Gives y Continued) clauses e d j = record { by = d.by }
  rescues_do k around b end (Halts y (Raised x)) clauses e d j = from c call code d.by (j y.line x y)
  rescues_do k around b end (Halts y (Refused why)) clauses e d j = record { by = d.by }
  rescues_do k around b end (Halts y Spent) clauses e d j = record { by = d.by }

  -- ---- clauses

  abbrev behind : Option Variable → Run Flow → Run Flow
  behind x (Gives s flow) = Gives (unbound c x s) flow
  behind x (Halts s (Raised e)) = Halts (unbound c x s) (Raised e)
  behind x (Halts s other) = Halts s other

  behind_is : (name : Option Text) (r : Run Flow) → behind (maybe_variable names name) r ≡ unbound_behind c name r
  behind_is name (Gives s flow) = ap (λ y. Gives y flow) (unsets w m t text class result locals name s)
  behind_is name (Halts s (Raised e)) = ap (λ y. Halts y (Raised e)) (unsets w m t text class result locals name s)
  behind_is name (Halts s (Refused why)) = refl
  behind_is name (Halts s Spent) = refl

  clause_left : {a : Config} (k : Targets) (around : Open) (release : ℕ) (x : Caught) (r : Run Flow) → slice_get code release ≡ Some (cell (in_clauses k).raised i.Release)
      → Comes c call code a (flowing c call code (in_clauses k) release (holding x around)) (thrown c (in_clauses k).raised (holding x around)) r
      → Comes c call code a (flowing c call code k (release + 1) around) (thrown c k.raised around) (behind x.variable r)
  clause_left k around release x (Gives y On) e d = record { by = chain c call code d.by (cell_step c call code e here) }
  clause_left k around release x (Gives y (Returned value)) e d = record { by = d.by }
  clause_left k around release x (Gives y Broke) e d = record { by = d.by }
  clause_left k around release x (Gives y Continued) e d = record { by = d.by }
  clause_left k around release x (Halts y (Raised value)) e d = record { by = d.by }
  clause_left k around release x (Halts y (Refused why)) e d = record { by = d.by }
  clause_left k around release x (Halts y Spent) e d = record { by = d.by }

  -- the cell that binds the name of a clause
  bound_some : (name : Option Text) (e : Value) (s : State) → set_caught c (maybe_variable names name) e s ≡ bind_some c name e s
  bound_some None e s = refl
  bound_some (Some name) e s = sets w m t text class result locals name (Some e) s

  abbrev pub caught : Value → ℕ → Option Variable → Caught
  caught e raised x = record { exception = e; line = raised; variable = x }

  any_out : (go : Unit {0} → State → Config) (out out' : State → Halt → Config) (r : Run (Unit {0})) → (y : State) × (r ≡ Gives y tt) → Leads c call code (after go out r) (after go out' r)
  any_out go out out' (Gives y u) b = here
  any_out go out out' (Halts y why) b = cc (b.1)

  -- it raises nothing
  binds : (name : Option Text) (e : Value) (s : State) → (y : State) × (bind_some c name e s ≡ Gives y tt)
  binds None e s = (s, refl)
  binds (Some name) e s = binds_name locals name (Some e) s where
    binds_name : (locals : Option (List Text)) (name : Text) (value : Option Value) (s : State) → (y : State) × (set_name (site w m class locals result) name value s ≡ Gives y tt)
    binds_name None name value s = (_, refl)
    binds_name (Some ns) name value s = (_, refl)

  names_do : {out : State → Halt → Config} (pc raised : ℕ) (around : Open) (s : State) (h : Handler) (e : Value) (name : Option Text) → slice_get code pc ≡ Some (cell h (i.Take (maybe_variable names name)))
      → Comes c call code (At pc [] (holding (caught e raised None) around) s) (going (pc + 1) [] (holding (caught e raised (maybe_variable names name)) around)) out (bind_some c name e s)
  names_do {out} pc raised around s h e name at =
      acts c call code at (subst (λ r. Leads c call code (after (going (pc + 1) [] (holding (caught e raised (maybe_variable names name)) around)) (thrown c h (holding (caught e raised None) around)) r)
      (after (going (pc + 1) [] (holding (caught e raised (maybe_variable names name)) around)) out (bind_some c name e s))) (sym (bound_some name e s)) (any_out _ _ _ (bind_some c name e s) (binds name e s)))

  -- a clause that takes it: `end` is the place behind its body
  pub taken_does : (k : Targets) (around : Open) (release pc end raised : ℕ) (e : Value) (name : Option Text) (body : Act Flow) (s : State)
      → slice_get code release ≡ Some (cell (in_clauses k).raised i.Release) → slice_get code pc ≡ Some (cell (in_clauses k).raised (i.Take (maybe_variable names name))) → slice_get code end ≡ Some (cell (in_clauses k).raised (i.Jump release))
      → ((y : State) → Comes c call code (At (pc + 1) [] (holding (caught e raised (maybe_variable names name)) around) y) (flowing c call code (in_clauses k) end (holding (caught e raised (maybe_variable names name)) around)) (thrown c (in_clauses k).raised (holding (caught e raised (maybe_variable names name)) around)) (body y))
      → Comes c call code (At pc [] (holding (caught e raised None) around) s) (flowing c call code k (release + 1) around) (thrown c k.raised around) (in_clause c name e body s)
  taken_does k around release pc end raised e name body s at_release at_name at_end j =
      let within = holding (caught e raised (maybe_variable names name)) around in
      subst (λ r. Comes c call code (At pc [] (holding (caught e raised None) around) s) (flowing c call code k (release + 1) around) (thrown c k.raised around) r) (behind_is name ((bind_some c name e >> body) s))
      (clause_left k around release (caught e raised (maybe_variable names name)) ((bind_some c name e >> body) s) at_release
      (then_on_comes c call code (bind_some c name e s) (names_do pc raised around s (in_clauses k).raised e name at_name) (λ y.
      extends c call code (in_clauses k) within end release (body y) (j y) (λ u. cell_step c call code at_end here))))
