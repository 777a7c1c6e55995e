-- The verdict at the number of the name.
use Rattle.std.proofs.Common.{◌≡◌, ◌<◌, length, Some, None, sym, ap, ◌∙◌, arith}
use Rattle.std.specs.List.{position}
use Rattle.std.specs.Option.{option_copied}
use Rattle.std.specs.Str.{bytes_eq}
use Rattle.std.proofs.lemmas.List.{get_or_default, length-map}
use Rattle.module_load.specs.Folders.{names_of}
use Rattle.module_load.specs.Needs.{in_table, rows_of}
use Rattle.module_load.specs.Right.{decided_of}
use Rattle.module_load.specs.declared.source.Source.{Source}
use Rattle.module_load.proofs.NamePlaces.{found_at}
use Rattle.module_load.proofs.Needs.{known_at}
use Rattle.module_load.proofs.needed.NeededKnown.verdict.Goals as goal

pub returns-in-Some : goal.returns-in-Some
returns-in-Some c =
    let needed = c.args.self.now in
    let list = needed.all.now.list in
    let table = needed.table.now in
    let name = c.args.name.now in
    let at : position (bytes_eq name) (names_of list) ≡ Some c.in-Some.number = sym (needed.named name) ∙ sym c.get.ensures ∙ c.in-Some.is in
    let many : length (names_of list) ≡ length list = length-map list (λ (s : Source). s.name) in
    let there : c.in-Some.number < length table = omega (arith, (found_at (bytes_eq name) (names_of list) c.in-Some.number at).0, many, needed.numbered.all) in
    ap (λ v. option_copied v) (get_or_default table c.in-Some.number c.index-self-number.result None there)
    ∙ ap (in_table table) (sym at)
    ∙ known_at (length list) needed.imports.now.rows table (names_of list) name needed.numbered many

pub returns-in-None : goal.returns-in-None
returns-in-None c =
    let needed = c.args.self.now in
    let name = c.args.name.now in
    let at : position (bytes_eq name) (names_of needed.all.now.list) ≡ None = sym (needed.named name) ∙ sym c.get.ensures ∙ c.in-None.is in
    ap (decided_of (rows_of needed.imports.now.rows)) (sym at)
