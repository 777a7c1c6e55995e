-- The row at the first place of the name.
use Rattle.std.proofs.Common.{◌≡◌, Some, None, sym, ap, ◌∙◌}
use Rattle.std.specs.List.{find, position}
use Rattle.std.specs.Str.{bytes_eq}
use Rattle.module_load.specs.declared.globals.ModuleGlobal.{ModuleGlobal}
use Rattle.module_load.proofs.Folders.{position-map}
use Rattle.module_load.proofs.NamePlaces.{found_at, none_at}
use Rattle.module_load.proofs.globals.Globals.named.Goals as goal

pub at-requires : goal.at-requires
at-requires c =
    let name = c.args.name.now in
    let rows = c.self.inside.rows in
    let p = λ (g : ModuleGlobal). bytes_eq name g.name in
    let at : position p rows ≡ Some c.in-Some.place = sym (position-map (bytes_eq name) (λ (g : ModuleGlobal). g.name) rows) ∙ sym (c.self.invariant name) ∙ sym c.get.ensures ∙ c.in-Some.is in
    (found_at p rows c.in-Some.place at).0

pub returns-in-Some : goal.returns-in-Some
returns-in-Some c =
    let name = c.args.name.now in
    let rows = c.self.inside.rows in
    let p = λ (g : ModuleGlobal). bytes_eq name g.name in
    let at : position p rows ≡ Some c.in-Some.place = sym (position-map (bytes_eq name) (λ (g : ModuleGlobal). g.name) rows) ∙ sym (c.self.invariant name) ∙ sym c.get.ensures ∙ c.in-Some.is in
    sym c.at.ensures ∙ (found_at p rows c.in-Some.place at).1 ∙ ap (find p) c.self.view_is

pub returns-in-None : goal.returns-in-None
returns-in-None c =
    let name = c.args.name.now in
    let rows = c.self.inside.rows in
    let p = λ (g : ModuleGlobal). bytes_eq name g.name in
    let at : position p rows ≡ None = sym (position-map (bytes_eq name) (λ (g : ModuleGlobal). g.name) rows) ∙ sym (c.self.invariant name) ∙ sym c.get.ensures ∙ c.in-None.is in
    sym (none_at p rows at) ∙ ap (find p) c.self.view_is
