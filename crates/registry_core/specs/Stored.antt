-- No definition of a right registry: the values of stored verdicts.
use Rattle.std.specs.Prelude.{List, [], ◌∷◌, map, Option, Some, None}
use Rattle.std.specs.Option.{option_map}
use Rattle.std.specs.Arc.{arc_value}
use Rattle.std.specs.declared.sync.Arc.{Arc}
use Rattle.std.specs.declared.alloc.Global.{Global}

abbrev pub shown : {V : Type 0} → List (Option (Arc V Global)) → List (Option V)
shown verdicts = map (λ o. option_map (λ a. arc_value a) o) verdicts

abbrev pub value_before : {V : Type 0} → Option (Arc V Global) → List V → List V
value_before None rest = rest
value_before (Some a) rest = arc_value a ∷ rest

-- those that are there
abbrev pub values_of : {V : Type 0} → List (Option (Arc V Global)) → List V
values_of [] = []
values_of (o ∷ rest) = value_before o (values_of rest)
