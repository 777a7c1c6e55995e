-- The class of a module of the first binding of the name.
use Rattle.std.proofs.Common.{◌≡◌, ◌∙◌, ◌+◌, ◌<◌, ap, sym, subst, List, ℕ, Some, take, length}
use Rattle.std.specs.Prelude.{slice_get}
use Rattle.std.specs.Str.{bytes_eq}
use Rattle.symbols.specs.declared.name_map.NameMap.{NameMap}
use Rattle.symbols.specs.declared.outer.Outer.{Outer}
use Rattle.symbols.specs.declared.outer.OuterBinding.{OuterBinding}
use Rattle.symbols.specs.Classes.{class_of_module, module_classes, outer_kind}
use Rattle.symbols.specs.ClassViews.{StandsAt, kinds_of}
use Rattle.symbols.specs.Places.{IsPlace, found_inside}
use Rattle.symbols.proofs.ImportedKinds.{same_some, some_member}
use Rattle.symbols.proofs.imported.Imported.member_number.Goals as goal

stands : (c : goal.After-as_slice-3) → (c.in_ok-start.start + c.in_ok-inside.inside < length (kinds_of c.self.inside.outer.now.bindings)) × StandsAt (kinds_of c.self.inside.outer.now.bindings) (class_of_module (module_classes (outer_kind c.self.inside.outer.now c.args.from.now)) c.args.name.now) (Some (c.in_ok-start.start + c.in_ok-inside.inside))
stands c =
    let o = c.self.inside.outer.now in
    let from = c.args.from.now in
    let name = c.args.name.now in
    let place = c.in_ok-place.place in
    let members = c.self.inside.members.items in
    let p : IsPlace (λ (b : OuterBinding). bytes_eq from b.name) o.bindings (Some place) = subst (IsPlace (λ (b : OuterBinding). bytes_eq from b.name) o.bindings) (sym c.in_ok-place.ensures) (c.self.invariant.named from) in
    let inside : Some c.in_ok-inside.inside ≡ found_inside (slice_get members place) name = c.in_ok-inside.ensures ∙ ap (λ (ms : List (NameMap ℕ)). found_inside (slice_get ms place) name) c.as_slice.ensures.value in
    let start : Some c.in_ok-start.start ≡ Some (length (kinds_of (take place o.bindings))) = c.in_ok-start.ensures ∙ (ap (λ (xs : List ℕ). slice_get xs place) c.as_slice-2.ensures.value ∙ c.self.invariant.begins place p.0) in
    some_member o from name place c.in_ok-start.start c.in_ok-inside.inside members c.self.invariant.inside p inside (same_some _ _ start)

pub number_behind-requires : goal.number_behind-requires
number_behind-requires c = rw (c.as_slice-3.ensures, c.self.invariant.listed) (stands c).0

pub returns : goal.returns
returns c =
    subst (λ (v : Outer). StandsAt (kinds_of v.bindings) (class_of_module (module_classes (outer_kind v c.args.from.now)) c.args.name.now) c.number_behind.result) c.self.view_is
    (subst (StandsAt (kinds_of c.self.inside.outer.now.bindings) (class_of_module (module_classes (outer_kind c.self.inside.outer.now c.args.from.now)) c.args.name.now)) (sym c.number_behind.ensures) (stands c.before).1)
