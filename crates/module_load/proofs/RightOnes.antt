-- What is right of a tree: what the relation has, and nothing else.
use Rattle.std.proofs.Common.{◌≡◌, ℕ, List, [], ◌∷◌, Option, Some, None, refl, sym, subst}
use Rattle.py_tree.specs.Syntax.{Text, Statements}
use Rattle.py_tree.specs.declared.fault.Fault.{Fault}
use Rattle.symbols.specs.Bindings.{globals}
use Rattle.symbols.specs.Faults.{faults}
use Rattle.symbols.specs.FirstFaults.{IsFirstOf}
use Rattle.module_load.specs.declared.verdict.Verdict.{Verdict}
use Rattle.module_load.specs.declared.verdict.Verdict.TheVariants.{Published}
use Rattle.module_load.specs.Bodies.{spent, unbuilt}
use Rattle.module_load.specs.Decisions.{Decisions}
use Rattle.module_load.specs.Imports.{import_faults}
use Rattle.module_load.specs.Outers.{outer, outer_bindings}
use Rattle.module_load.specs.Right.{first_fault, unless_refused, right_of_tree, RightIsRight}
use Rattle.module_load.specs.RightDecisions.{IsRight, bad_import, bad_name, not_built, out_of_fuel, is_published, held, module_names}
use Rattle.module_load.proofs.FirstOnes.{first_alone, first_of_both}
use Rattle.module_load.proofs.OneDecision.{one_decision}

first_is : (fs : List Fault) → IsFirstOf fs (first_fault fs)
first_is [] = refl
first_is (f ∷ rest) = first_of_both (f ∷ []) rest (Some f) (first_fault rest) (first_alone f) (first_is rest)

pub right_one : (known : Decisions) (name : Text) (number : ℕ) (body : Statements) → IsRight known name number body (right_of_tree known name number body)
right_one known name number body = by_imports (first_fault (import_faults known body)) (first_is (import_faults known body))
  where
    named : List Fault
    named = faults (outer known name number body) body

    published : Verdict
    published = Published (held (module_names (outer_bindings known body)) (globals body))

    by_fuel : import_faults known body ≡ [] → named ≡ [] → unbuilt body ≡ None → (o : Option Fault) → spent body ≡ o → IsRight known name number body (unless_refused o published)
    by_fuel i n u None s = is_published i n u s
    by_fuel i n u (Some f) s = out_of_fuel i n u s

    by_body : import_faults known body ≡ [] → named ≡ [] → (o : Option Fault) → unbuilt body ≡ o → IsRight known name number body (unless_refused o (unless_refused (spent body) published))
    by_body i n None u = by_fuel i n u (spent body) refl
    by_body i n (Some f) u = not_built i n u

    by_names : import_faults known body ≡ [] → (o : Option Fault) → IsFirstOf named o
        → IsRight known name number body (unless_refused o (unless_refused (unbuilt body) (unless_refused (spent body) published)))
    by_names i None n = by_body i n (unbuilt body) refl
    by_names i (Some f) first = bad_name i first

    by_imports : (o : Option Fault) → IsFirstOf (import_faults known body) o
        → IsRight known name number body (unless_refused o (unless_refused (first_fault named) (unless_refused (unbuilt body) (unless_refused (spent body) published))))
    by_imports None i = by_names i (first_fault named) (first_is named)
    by_imports (Some f) first = bad_import first

pub right_is_right : RightIsRight
right_is_right known name number body verdict = (
  λ h. one_decision known name number body verdict (right_of_tree known name number body) h (right_one known name number body),
  λ e. subst (λ (v : Verdict). IsRight known name number body v) (sym e) (right_one known name number body),
)
