-- The entry of the name is put in.
use Rattle.std.specs.Prelude.{if◌then◌else◌}
use Rattle.std.proofs.Common.{◌∙◌, ap, Some}
use Rattle.std.specs.Str.{bytes_eq}
use Rattle.symbols.proofs.Entries.{value, replaced}
use Rattle.symbols.proofs.name_map.NameMap.put.Goals as goal

pub returns-clause-found : goal.returns-clause-found
returns-clause-found g c other =
    let es = c.args.self.now.map.entries in
    let name = c.as_slice.ensures.points in
    ap (value other) c.in_ok-insert.ensures.entries ∙ (replaced other es c.as_slice.result c.args.value ∙ (λ i. if bytes_eq other (name i) then Some c.args.value else value other es))
