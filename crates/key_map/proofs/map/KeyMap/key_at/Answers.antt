use Rattle.std.proofs.Common.{rules, ◌≡◌, Some, None, slice_get}
use Rattle.key_map.proofs.Rows.{key_at_place}
use Rattle.key_map.proofs.map.KeyMap.key_at.Goals as goal

pub returns-in-Some : goal.returns-in-Some
returns-in-Some g c =
    let there : slice_get c.args.self.now.rows.entries c.args.place ≡ Some (c.in-Some.key.now, c.in-Some.field-0-1.now) = search rules in
    record { key = key_at_place c.args.self.now.rows.entries c.args.place _ there }

pub returns-in-None : goal.returns-in-None
returns-in-None g c =
    let none : slice_get c.args.self.now.rows.entries c.args.place ≡ None = search rules in
    record { key = key_at_place c.args.self.now.rows.entries c.args.place _ none }
