-- What the passes are once those that were lent come back.
use Rattle.std.specs.Prelude.{List, ◌++◌, length, take, drop}
use Rattle.std.specs.Borrow.{Lends, Fml, RattleType, MutBor, Array}
use Rattle.std.specs.declared.sync.ledger.Ledger.{Ghosts}
use Rattle.registry_lock.specs.Passes.{PassView}
use Rattle.registry_lock.specs.contracts.pass.Pass.{the_row as pass_row}
use Rattle.registry_lock.specs.contracts.passes.Passes.{the_row}

-- these in place of the first of those; as many as those are all of them
abbrev pub in_place : List PassView → List PassView → List PassView
in_place these those = take (length those) (these ++ drop (length these) those)

module _ (N : RattleType) (ledger : Ghosts N.Denot) (passes : MutBor (List PassView)) where
  -- what the loan shows last, in the place of what was lent
  abbrev pub lends_passes : MutBor (List PassView) → Fml
  lends_passes rows = Lends (the_row N ledger) (Array (pass_row N ledger) 0) passes rows (λ last. in_place last passes.now)
