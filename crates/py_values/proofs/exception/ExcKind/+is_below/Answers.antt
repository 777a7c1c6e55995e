use Rattle.std.proofs.Common.{rules, ◌≡◌, Some}
use Rattle.py_values.specs.Exceptions.{base_of}
use Rattle.py_values.proofs.Below.{below_same, below_by_base}
use Rattle.py_values.proofs.exception.ExcKind.+is_below.Goals as goal

pub returns-then-eq : goal.returns-then-eq
returns-then-eq t c = let same : c.args.self ≡ c.args.other = search rules in record { below = below_same _ _ same }

pub returns-in-Some : goal.returns-in-Some
returns-in-Some t c =
    let other : c.args.self ≡ c.args.other → ⊥ = search rules in
    let above : base_of c.args.self ≡ Some c.in-Some.base = search rules in
    record { below = below_by_base _ _ _ _ above other c.is_below.ensures.below }
