-- What is decided after each phase.
use Rattle.std.proofs.Common.{◌≡◌, ℕ, List, [], Option, Some, None, Ok, Err, sym, ap, subst, ◌∙◌}
use Rattle.py_tree.specs.Syntax.{Text, Statements}
use Rattle.py_tree.specs.Joined.{module_of, statements_of}
use Rattle.py_tree.specs.declared.fault.Fault.{Fault}
use Rattle.py_tree.specs.declared.fault.Stop.{Stop}
use Rattle.py_tree.specs.declared.fault.Stop.TheVariants as stop
use Rattle.py_tree.specs.declared.statement.Module.{Module}
use Rattle.py_tree.specs.declared.statement.Stmt.{Stmt}
use Rattle.symbols.specs.Answers.{Right}
use Rattle.symbols.specs.Bindings.{globals}
use Rattle.symbols.specs.Faults.{IsFirst, faults}
use Rattle.symbols.specs.FirstFaults.{IsFirstOf}
use Rattle.symbols.specs.Words.{among}
use Rattle.symbols.specs.declared.outer.Outer.{Outer}
use Rattle.symbols.specs.declared.outer.OuterBinding.{OuterBinding}
use Rattle.symbols.specs.declared.resolved.Resolved.{Resolved}
use Rattle.module_load.specs.declared.globals.ModuleGlobal.{ModuleGlobal}
use Rattle.module_load.specs.declared.verdict.Verdict.TheVariants.{Published, Refused}
use Rattle.module_load.specs.Bodies.{spent, unbuilt}
use Rattle.module_load.specs.Decisions.{Decisions}
use Rattle.module_load.specs.Imports.{import_faults}
use Rattle.module_load.specs.Outers.{outer, outer_bindings}
use Rattle.module_load.specs.RightDecisions.{IsRight, bad_import, bad_name, not_built, out_of_fuel, is_published, held, module_names}
use Rattle.module_load.specs.Views.{IsDecided}
use Rattle.module_load.proofs.Held.{held_same}

-- ---- imports

pub import_found : (known : Decisions) (name : Text) (number : ℕ) (body : List Stmt) (m : Module) (first : Option Fault) (f : Fault) → body ≡ m.body → IsFirstOf (import_faults known (statements_of body)) first → first ≡ Some f → IsRight known name number (module_of m) (Refused f)
import_found known name number body m first f of h e = bad_import (subst (λ (b : List Stmt). IsFirst (import_faults known (statements_of b)) f) of (subst (IsFirstOf (import_faults known (statements_of body))) e h))

pub imports_pass : (known : Decisions) (body : List Stmt) (m : Module) (first : Option Fault) → body ≡ m.body → IsFirstOf (import_faults known (statements_of body)) first → first ≡ None → import_faults known (module_of m) ≡ []
imports_pass known body m first of h e = ap (λ (b : List Stmt). import_faults known (statements_of b)) (sym of) ∙ subst (IsFirstOf (import_faults known (statements_of body))) e h

-- ---- names

pub outer_is : (known : Decisions) (name : Text) (number : ℕ) (body : List Stmt) (m : Module) (o : Outer) → body ≡ m.body → o ≡ outer known name number (statements_of body) → o ≡ outer known name number (module_of m)
outer_is known name number body m o of e = e ∙ ap (λ (b : List Stmt). outer known name number (statements_of b)) of

pub unnamed : (known : Decisions) (name : Text) (number : ℕ) (m : Module) (o : Outer) (s : Stop) → import_faults known (module_of m) ≡ [] → o ≡ outer known name number (module_of m) → Right o m (Err s) → IsDecided known name number (module_of m) (Err s)
unnamed known name number m o (stop.Fault f) none e h = bad_name none (subst (λ (x : Outer). IsFirst (faults x (module_of m)) f) e h)
unnamed known name number m o (stop.Memory error) none e h = tt

-- what is known of a module once its names are resolved
pub record Named (known : Decisions) (name : Text) (number : ℕ) (m : Module) (r : Resolved) : Type 0 where
  pub imports : import_faults known (module_of m) ≡ []
  pub names : faults (outer known name number (module_of m)) (module_of m) ≡ []
  pub globals : r.globals ≡ globals (module_of m)

pub names_pass : (known : Decisions) (name : Text) (number : ℕ) (m : Module) (o : Outer) (r : Resolved) → import_faults known (module_of m) ≡ [] → o ≡ outer known name number (module_of m) → Right o m (Ok r) → Named known name number m r
names_pass known name number m o r none e h = record { imports = none; names = ap (λ (x : Outer). faults x (module_of m)) (sym e) ∙ h.0; globals = h.1.globals }

-- ---- the body

at_body : (test : Statements → Option Fault) (body : List Stmt) (m : Module) (found other : Option Fault) → body ≡ m.body → found ≡ test (statements_of body) → found ≡ other → test (module_of m) ≡ other
at_body test body m found other of is e = ap (λ (b : List Stmt). test (statements_of b)) (sym of) ∙ (sym is ∙ e)

pub unbuilt_found : (known : Decisions) (name : Text) (number : ℕ) (m : Module) (r : Resolved) (body : List Stmt) (found : Option Fault) (f : Fault) → Named known name number m r → body ≡ m.body → found ≡ unbuilt (statements_of body) → found ≡ Some f → IsRight known name number (module_of m) (Refused f)
unbuilt_found known name number m r body found f n of is e = not_built n.imports n.names (at_body unbuilt body m found (Some f) of is e)

-- no statement isn't built
pub body_passes : (m : Module) (body : List Stmt) (found : Option Fault) → body ≡ m.body → found ≡ unbuilt (statements_of body) → found ≡ None → unbuilt (module_of m) ≡ None
body_passes m body found of is e = at_body unbuilt body m found None of is e

pub spent_found : (known : Decisions) (name : Text) (number : ℕ) (m : Module) (r : Resolved) (body : List Stmt) (found : Option Fault) (f : Fault) → Named known name number m r → body ≡ m.body → unbuilt (module_of m) ≡ None → found ≡ spent (statements_of body) → found ≡ Some f → IsRight known name number (module_of m) (Refused f)
spent_found known name number m r body found f n of built is e = out_of_fuel n.imports n.names built (at_body spent body m found (Some f) of is e)

-- ---- publication

globals_are : (known : Decisions) (name : Text) (number : ℕ) (m : Module) (o : Outer) (bindings : List OuterBinding) (modules names : List Text) (r : Resolved) → o ≡ outer known name number (module_of m) → bindings ≡ o.bindings → names ≡ r.globals → r.globals ≡ globals (module_of m) → ((n : Text) → among n modules ≡ among n (module_names bindings)) → held modules names ≡ held (module_names (outer_bindings known (module_of m))) (globals (module_of m))
globals_are known name number m o bindings modules names r e eb en eg same =
    let bound : bindings ≡ outer_bindings known (module_of m) = eb ∙ ap (λ (x : Outer). x.bindings) e in
    held_same modules (module_names bindings) names same ∙ (ap (λ (bs : List OuterBinding). held (module_names bs) names) bound ∙ ap (held (module_names (outer_bindings known (module_of m)))) (en ∙ eg))

pub publish : (known : Decisions) (name : Text) (number : ℕ) (m : Module) (o : Outer) (r : Resolved) (body : List Stmt) (bindings : List OuterBinding) (modules names : List Text) (found : Option Fault) (all : List ModuleGlobal) → Named known name number m r → o ≡ outer known name number (module_of m) → body ≡ m.body → unbuilt (module_of m) ≡ None → found ≡ spent (statements_of body) → found ≡ None → bindings ≡ o.bindings → names ≡ r.globals → ((n : Text) → among n modules ≡ among n (module_names bindings)) → all ≡ held modules names → IsRight known name number (module_of m) (Published all)
publish known name number m o r body bindings modules names found all n e of built is none eb en same ea =
    subst (λ (gs : List ModuleGlobal). IsRight known name number (module_of m) (Published gs)) (sym (ea ∙ globals_are known name number m o bindings modules names r e eb en n.globals same)) (is_published n.imports n.names built (at_body spent body m found None of is none))
