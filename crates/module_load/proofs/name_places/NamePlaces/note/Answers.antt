-- A name that has no place is given one.
use Rattle.std.specs.Prelude.{if◌then◌else◌}
use Rattle.std.proofs.Common.{◌≡◌, ◌∙◌, List, ℕ, sym, ap, Some, None}
use Rattle.std.specs.Option.{option_or}
use Rattle.std.specs.Str.{bytes_eq}
use Rattle.module_load.proofs.NamePlaces.{value, given, none_there}
use Rattle.module_load.proofs.name_places.NamePlaces.note.Goals as goal

pub returns-in_ok-insert : goal.returns-in_ok-insert
returns-in_ok-insert c other =
    let es = c.args.self.now.map.entries in
    let key = c.in_ok-key.key in
    let points : key.items ≡ c.args.name.now = c.in_ok-key.ensures.items ∙ c.as_slice-then-is_none.ensures.points in
    let same : c.as_slice.result.now ≡ key.items = c.as_slice.ensures.points ∙ sym points in
    let none : value es (λ k. k.items) key.items ≡ None = ap (λ (n : List ℕ). value es (λ k. k.items) n) (sym same) ∙ (sym c.get.ensures.value ∙ none_there c.get.result c.if-is_none.ensures) in
    ap (λ more. value more (λ k. k.items) other) c.in_ok-insert.ensures.entries ∙ (given es (λ k. k.items) other key c.args.place none ∙ (λ i. option_or (value es (λ k. k.items) other) (if bytes_eq other (points i) then Some c.args.place else None)))
