-- A name that has no value is given one.
use Rattle.std.specs.Prelude.{if◌then◌else◌}
use Rattle.std.proofs.Common.{◌≡◌, ◌∙◌, List, ℕ, sym, ap, Some, None}
use Rattle.std.specs.Option.{option_or}
use Rattle.std.specs.Str.{bytes_eq}
use Rattle.symbols.proofs.Entries.{value, given, none_there}
use Rattle.symbols.proofs.name_map.NameMap.keep.Goals as goal

pub returns-in_ok-insert-clause-found : goal.returns-in_ok-insert-clause-found
returns-in_ok-insert-clause-found g c other =
    let es = c.args.self.now.map.entries in
    let key = c.as_slice-then-is_none.result in
    let name = c.as_slice-then-is_none.ensures.points in
    let same : c.as_slice.result.now ≡ key.now = c.as_slice.ensures.points ∙ sym name in
    let none : value key.now es ≡ None = ap (λ (n : List ℕ). value n es) (sym same) ∙ (sym c.get.ensures.value ∙ none_there c.get.result c.if-is_none.ensures) in
    ap (value other) c.in_ok-insert.ensures.entries ∙ (given other es key c.args.value none ∙ (λ i. option_or (value other es) (if bytes_eq other (name i) then Some c.args.value else None)))
