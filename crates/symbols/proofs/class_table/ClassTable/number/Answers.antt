-- The first class of a name stands at its place.
use Rattle.std.proofs.Common.{subst, sym, Option, ℕ}
use Rattle.symbols.specs.Classes.{earlier_class}
use Rattle.symbols.specs.ClassViews.{StandsAt, Tabled, found_at, kinds_found}
use Rattle.symbols.proofs.ClassLists.{number_stands}
use Rattle.symbols.proofs.class_table.ClassTable.number.Goals as goal

pub returns : goal.returns
returns c =
    subst (λ (t : Tabled). StandsAt (kinds_found (found_at t)) (earlier_class (found_at t) c.args.name.now) c.get.result) c.self.view_is
    (subst (λ (o : Option ℕ). StandsAt (kinds_found (found_at (record { outer = c.self.inside.imported; own = c.self.inside.own }))) (earlier_class (found_at (record { outer = c.self.inside.imported; own = c.self.inside.own })) c.args.name.now) o) (sym c.get.ensures)
    (number_stands _ c.args.name.now _ (c.self.invariant.numbered c.args.name.now)))
