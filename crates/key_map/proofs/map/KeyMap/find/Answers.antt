use Rattle.std.proofs.Common.{rules, ◌≡◌, Some, None, sym, ap, ◌∙◌}
use Rattle.std.specs.Option.{option_map}
use Rattle.std.specs.Map.{lookup}
use Rattle.key_map.proofs.Rows.{test, value_of, found}
use Rattle.key_map.proofs.map.KeyMap.find.Goals as goal

pub returns-in-Some : goal.returns-in-Some
returns-in-Some g c =
    let there : lookup (test c.args.key.now) c.args.self.now.rows.entries ≡ Some c.in-Some.row.now = search rules in
    record { value = ap Some c.value.ensures ∙ sym (ap (option_map value_of) there) ∙ found c.args.key.now c.args.self.now.rows.entries }

pub returns-in-None : goal.returns-in-None
returns-in-None g c =
    let none : lookup (test c.args.key.now) c.args.self.now.rows.entries ≡ None = search rules in
    record { value = sym (ap (option_map value_of) none) ∙ found c.args.key.now c.args.self.now.rows.entries }
