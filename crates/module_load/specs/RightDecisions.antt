-- What is right to decide of a module that stands on no cycle of imports, from what is decided of those that it needs.
use Rattle.std.specs.Prelude.{◌≡◌, ℕ, Bool, true, false, List, [], map, Some, None}
use Rattle.std.specs.List.{filter}
use Rattle.py_tree.specs.Syntax.{Text, Statements}
use Rattle.py_tree.specs.declared.fault.Fault.{Fault}
use Rattle.symbols.specs.Bindings.{globals}
use Rattle.symbols.specs.Faults.{IsFirst, faults}
use Rattle.symbols.specs.Words.{among}
use Rattle.symbols.specs.declared.outer.OuterBinding.{OuterBinding}
use Rattle.symbols.specs.declared.outer.OuterKind.{OuterKind}
use Rattle.symbols.specs.declared.outer.OuterKind.TheVariants as holds
use Rattle.module_load.specs.declared.globals.ModuleGlobal.{ModuleGlobal}
use Rattle.module_load.specs.declared.verdict.Verdict.{Verdict}
use Rattle.module_load.specs.declared.verdict.Verdict.TheVariants.{Published, Refused}
use Rattle.module_load.specs.Bodies.{spent, unbuilt}
use Rattle.module_load.specs.Decisions.{Decisions}
use Rattle.module_load.specs.Imports.{import_faults}
use Rattle.module_load.specs.Outers.{outer, outer_bindings}

abbrev pub is_module : OuterKind → Bool
is_module (holds.Module classes) = true
is_module kind = false

-- the names that are bound to modules
abbrev pub module_names : List OuterBinding → List Text
module_names bindings = map (λ b. b.name) (filter (λ b. is_module b.kind) bindings)

-- each name, and whether it is one of those
abbrev pub held : List Text → List Text → List ModuleGlobal
held modules names = map (λ name. record { name = name; holds_module = among name modules }) names

-- The first that applies: a fault of imports, a fault of names, a statement that isn't built, one without fuel, publication.
pub data IsRight (known : Decisions) (name : Text) (number : ℕ) (body : Statements) : Verdict → Type 0 where
  bad_import : {f : Fault} →
      IsFirst (import_faults known body) f
      → IsRight known name number body (Refused f)
  bad_name : {f : Fault} →
      import_faults known body ≡ []
      → IsFirst (faults (outer known name number body) body) f
      → IsRight known name number body (Refused f)
  not_built : {f : Fault} →
      import_faults known body ≡ []
      → faults (outer known name number body) body ≡ []
      → unbuilt body ≡ Some f
      → IsRight known name number body (Refused f)
  out_of_fuel : {f : Fault} →
      import_faults known body ≡ []
      → faults (outer known name number body) body ≡ []
      → unbuilt body ≡ None
      → spent body ≡ Some f
      → IsRight known name number body (Refused f)
  is_published :
      import_faults known body ≡ []
      → faults (outer known name number body) body ≡ []
      → unbuilt body ≡ None
      → spent body ≡ None
      → IsRight known name number body (Published (held (module_names (outer_bindings known body)) (globals body)))

-- one decision is right
abbrev pub OneDecision : Type 0
OneDecision = (known : Decisions) (name : Text) (number : ℕ) (body : Statements) (a b : Verdict) → IsRight known name number body a → IsRight known name number body b → a ≡ b
