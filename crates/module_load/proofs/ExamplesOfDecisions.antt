-- What is decided of some modules.
use Rattle.std.proofs.Common.{◌≡◌, ℕ, [], ◌∷◌, Bool, true, false, Option, Some, None, if◌then◌else◌, codes, refl}
use Rattle.std.specs.Str.{bytes_eq}
use Rattle.py_tree.specs.Syntax as x
use Rattle.py_tree.specs.Syntax.{Text, Statement, Statements}
use Rattle.py_tree.specs.Joined.{statements}
use Rattle.py_tree.specs.declared.code.Code.TheVariants.{NotBuilt, NoSuchModule, RefusedImport, NoSuchName, PlainImport, Effect}
use Rattle.py_tree.specs.declared.statement.Import.{Import}
use Rattle.symbols.specs.declared.outer.OuterKind.TheVariants as holds
use Rattle.module_load.specs.declared.globals.ModuleGlobal.{ModuleGlobal}
use Rattle.module_load.specs.declared.verdict.Verdict.TheVariants.{Published, Refused, Plain}
use Rattle.module_load.specs.Bodies.{unbuilt}
use Rattle.module_load.specs.Decisions.{Decisions}
use Rattle.module_load.specs.Imports.{import_faults}
use Rattle.module_load.specs.Outers.{outer_bindings, outer_binding}
use Rattle.module_load.specs.Preparing.{fault}
use Rattle.module_load.specs.RightDecisions.{IsRight, is_published}

abbrev import_of : Text → Option Text → Import
import_of name alias = record { name = name; alias = alias }

abbrev global_of : Text → Bool → ModuleGlobal
global_of name holds_module = record { name = name; holds_module = holds_module }

-- `b` is published with X and with m, which holds a module; `r` is refused; `p` is plain
abbrev known : Decisions
known name =
    if bytes_eq name (codes "b") then Some (Published (global_of (codes "X") false ∷ global_of (codes "m") true ∷ []))
    else (if bytes_eq name (codes "r") then Some (Refused (fault 7 Effect))
    else (if bytes_eq name (codes "p") then Some Plain
    else None))

abbrev importing : ℕ → Text → Option Text → Statement
importing line name alias = x.On line (x.Imports (import_of name alias ∷ []))

abbrev taking : ℕ → Text → Text → Option Text → Statement
taking line from name alias = x.On line (x.From from (import_of name alias ∷ []))

abbrev strict : Statement
strict = importing 1 (codes "__strict__") None

abbrev static : Statement
static = importing 1 (codes "__static__") None

-- import r, and import p, and import q, each on its line
whole_modules : import_faults known (statements (strict ∷ importing 2 (codes "r") None ∷ importing 3 (codes "p") None ∷ importing 4 (codes "q") None ∷ importing 5 (codes "b") None ∷ [])) ≡ (fault 2 RefusedImport ∷ fault 3 PlainImport ∷ fault 4 NoSuchModule ∷ [])
whole_modules = refl

-- from b import X as m, from b import y, from r import X
members : import_faults known (statements (strict ∷ taking 2 (codes "b") (codes "X") (Some (codes "m")) ∷ taking 3 (codes "b") (codes "y") None ∷ taking 4 (codes "r") (codes "X") None ∷ [])) ≡ (fault 3 NoSuchName ∷ fault 4 RefusedImport ∷ [])
members = refl

-- import __static__ as s, and from __future__ import annotations as a
other_spellings : import_faults known (statements (strict ∷ importing 2 (codes "__static__") (Some (codes "s")) ∷ taking 3 (codes "__future__") (codes "annotations") (Some (codes "a")) ∷ [])) ≡ (fault 2 NoSuchModule ∷ fault 3 NoSuchModule ∷ [])
other_spellings = refl

-- from __static__ import int64, in a module of each kind
static_names : import_faults known (statements (static ∷ taking 2 (codes "__static__") (codes "int64") None ∷ [])) ≡ []
static_names = refl

no_static_names : import_faults known (statements (strict ∷ taking 2 (codes "__static__") (codes "int64") None ∷ [])) ≡ (fault 2 NoSuchName ∷ [])
no_static_names = refl

-- import b as c, from b import m, from b import X, from typing import Any
bound : outer_bindings known (statements (strict ∷ importing 2 (codes "b") (Some (codes "c")) ∷ taking 3 (codes "b") (codes "m") None ∷ taking 4 (codes "b") (codes "X") None ∷ taking 5 (codes "typing") (codes "Any") None ∷ [])) ≡ (outer_binding (codes "c") (holds.Module []) ∷ outer_binding (codes "m") (holds.Module []) ∷ outer_binding (codes "X") holds.Other ∷ [])
bound = refl

abbrev assign : ℕ → Text → Statement
assign line name = x.On line (x.Assign (x.ToName name) (x.Int 1))

-- X = 1, and pass
not_all_built : unbuilt (statements (strict ∷ assign 2 (codes "X") ∷ x.On 3 x.Pass ∷ [])) ≡ Some (fault 3 NotBuilt)
not_all_built = refl

-- from b import m, and Y = 1
a_published_module : IsRight known (codes "a") 0 (statements (strict ∷ taking 2 (codes "b") (codes "m") None ∷ assign 3 (codes "Y") ∷ [])) (Published (global_of (codes "m") true ∷ global_of (codes "Y") false ∷ []))
a_published_module = is_published refl refl refl refl
