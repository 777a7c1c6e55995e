use Rattle.std.proofs.Common.{◌≡◌, Some, None, sym}
use Rattle.py_expr.proofs.ForNames.{bare_found, no_bare}
use Rattle.py_expr.proofs.for_names.bare.Goals as goal

pub returns-in_default : goal.returns-in_default
returns-in_default c s bare read = no_bare s c.args.list.rest.now c.args.list.names c.args.list.comma bare read (λ r z is h. c.in_default.ensures r h)

pub returns-in-Some-target_from : goal.returns-in-Some-target_from
returns-in-Some-target_from c s bare read =
    bare_found s c.args.list.rest.now c.in-Some.rest.now c.args.list.names c.args.list.comma c.in-Some-target_from.target bare read (sym c.in-Some-target_from.ensures) c.in-Some.ensures

pub returns-in-None : goal.returns-in-None
returns-in-None c s bare read = no_bare s c.args.list.rest.now c.args.list.names c.args.list.comma bare read (λ r z is h. absurd (other c.in-None.ensures is)) where
  other : {A : Type 0} {a : A} {o : _} → None ≡ o → o ≡ Some a → ⊥
  other e f = cc
