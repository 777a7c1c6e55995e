-- One decision of a module is right.
use Rattle.std.proofs.Common.{◌≡◌, List, [], Option, Some, None, refl, ap}
use Rattle.py_tree.specs.declared.fault.Fault.{Fault}
use Rattle.symbols.specs.Faults.{IsFirst, faults}
use Rattle.symbols.proofs.FirstOnes.{first_of_none}
use Rattle.module_load.specs.declared.verdict.Verdict.{Verdict}
use Rattle.module_load.specs.declared.verdict.Verdict.TheVariants.{Refused}
use Rattle.module_load.specs.Imports.{import_faults}
use Rattle.module_load.specs.Outers.{outer}
use Rattle.module_load.specs.RightDecisions.{IsRight, bad_import, bad_name, not_built, out_of_fuel, is_published, OneDecision}
use Rattle.module_load.proofs.Named.{imports_named, names_named, one_first}

no_first : {fs : List Fault} {f : Fault} → fs ≡ [] → IsFirst fs f → ⊥
no_first {fs} {f} none first = first_of_none f fs none first

one_there : {found : Option Fault} {f g : Fault} → found ≡ Some f → found ≡ Some g → f ≡ g
one_there {found} {f} {g} a b = cc

some_none : {found : Option Fault} {f : Fault} → found ≡ Some f → found ≡ None → ⊥
some_none {found} {f} a b = cc

pub one_decision : OneDecision
one_decision known name number body = by
  where
    by : (a b : Verdict) → IsRight known name number body a → IsRight known name number body b → a ≡ b
    by _ _ (bad_import f1) (bad_import f2) = ap Refused (one_first (import_faults known body) _ _ (imports_named known body) f1 f2)
    by _ _ (bad_import f1) (bad_name n2 f2) = absurd (no_first n2 f1)
    by _ _ (bad_import f1) (not_built n2 m2 u2) = absurd (no_first n2 f1)
    by _ _ (bad_import f1) (out_of_fuel n2 m2 u2 s2) = absurd (no_first n2 f1)
    by _ _ (bad_import f1) (is_published n2 m2 u2 s2) = absurd (no_first n2 f1)
    by _ _ (bad_name n1 f1) (bad_import f2) = absurd (no_first n1 f2)
    by _ _ (bad_name n1 f1) (bad_name n2 f2) = ap Refused (one_first (faults (outer known name number body) body) _ _ (names_named (outer known name number body) body) f1 f2)
    by _ _ (bad_name n1 f1) (not_built n2 m2 u2) = absurd (no_first m2 f1)
    by _ _ (bad_name n1 f1) (out_of_fuel n2 m2 u2 s2) = absurd (no_first m2 f1)
    by _ _ (bad_name n1 f1) (is_published n2 m2 u2 s2) = absurd (no_first m2 f1)
    by _ _ (not_built n1 m1 u1) (bad_import f2) = absurd (no_first n1 f2)
    by _ _ (not_built n1 m1 u1) (bad_name n2 f2) = absurd (no_first m1 f2)
    by _ _ (not_built n1 m1 u1) (not_built n2 m2 u2) = ap Refused (one_there u1 u2)
    by _ _ (not_built n1 m1 u1) (out_of_fuel n2 m2 u2 s2) = absurd (some_none u1 u2)
    by _ _ (not_built n1 m1 u1) (is_published n2 m2 u2 s2) = absurd (some_none u1 u2)
    by _ _ (out_of_fuel n1 m1 u1 s1) (bad_import f2) = absurd (no_first n1 f2)
    by _ _ (out_of_fuel n1 m1 u1 s1) (bad_name n2 f2) = absurd (no_first m1 f2)
    by _ _ (out_of_fuel n1 m1 u1 s1) (not_built n2 m2 u2) = absurd (some_none u2 u1)
    by _ _ (out_of_fuel n1 m1 u1 s1) (out_of_fuel n2 m2 u2 s2) = ap Refused (one_there s1 s2)
    by _ _ (out_of_fuel n1 m1 u1 s1) (is_published n2 m2 u2 s2) = absurd (some_none s1 s2)
    by _ _ (is_published n1 m1 u1 s1) (bad_import f2) = absurd (no_first n1 f2)
    by _ _ (is_published n1 m1 u1 s1) (bad_name n2 f2) = absurd (no_first m1 f2)
    by _ _ (is_published n1 m1 u1 s1) (not_built n2 m2 u2) = absurd (some_none u2 u1)
    by _ _ (is_published n1 m1 u1 s1) (out_of_fuel n2 m2 u2 s2) = absurd (some_none s2 s1)
    by _ _ (is_published n1 m1 u1 s1) (is_published n2 m2 u2 s2) = refl
