use Rattle.std.proofs.Common.{rules, ◌≡◌, Some, None, slice_get}
use Rattle.key_map.proofs.Rows.{at_place, past_end}
use Rattle.key_map.proofs.map.KeyMap.at.Goals as goal

pub returns-in-Some : goal.returns-in-Some
returns-in-Some g c =
    let there : slice_get c.args.self.now.rows.entries c.args.place ≡ Some (c.in-Some.field-0-0.now, c.in-Some.row.now) = search rules in
    let is = at_place c.args.self.now.rows.entries c.args.place _ _ there in
    record { entry = rw c.shown.ensures (rw c.value.ensures is) }

pub returns-in-None : goal.returns-in-None
returns-in-None g c =
    let none : slice_get c.args.self.now.rows.entries c.args.place ≡ None = search rules in
    record { entry = past_end c.args.self.now.rows.entries c.args.place none }
