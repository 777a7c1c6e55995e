-- The place is a number of a module.
use Rattle.std.proofs.Common.{◌≡◌, Some, sym, ◌∙◌, arith}
use Rattle.std.specs.List.{position}
use Rattle.std.specs.Str.{bytes_eq}
use Rattle.std.proofs.lemmas.List.{length-map}
use Rattle.module_load.specs.declared.source.Source.{Source}
use Rattle.module_load.specs.Folders.{names_of}
use Rattle.module_load.proofs.NamePlaces.{found_at}
use Rattle.module_load.proofs.folder.number_of.Goals as goal

pub overflow_cast-result : goal.overflow_cast-result
overflow_cast-result c =
    let names = names_of c.args.list.now in
    let at : position (bytes_eq c.args.name.now) names ≡ Some c.in-Some.number = sym (c.requires.numbers c.args.name.now) ∙ sym c.get.ensures ∙ c.in-Some.is in
    omega (arith, (found_at (bytes_eq c.args.name.now) names c.in-Some.number at).0, length-map c.args.list.now (λ (s : Source). s.name), c.requires.few)

pub returns-in-Some : goal.returns-in-Some
returns-in-Some c = sym c.in-Some.is ∙ c.get.ensures ∙ c.requires.numbers c.args.name.now
