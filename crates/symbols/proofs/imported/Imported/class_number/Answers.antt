-- The class of the first binding of the name.
use Rattle.std.proofs.Common.{◌≡◌, ◌∙◌, ap, sym, subst, List, ℕ, Some, take, length, refl}
use Rattle.std.specs.Prelude.{slice_get}
use Rattle.std.specs.Str.{bytes_eq}
use Rattle.symbols.specs.declared.outer.Outer.{Outer}
use Rattle.symbols.specs.declared.outer.OuterBinding.{OuterBinding}
use Rattle.symbols.specs.Classes.{class_kind, outer_kind}
use Rattle.symbols.specs.ClassViews.{StandsAt, kinds_of}
use Rattle.symbols.specs.Places.{IsPlace}
use Rattle.symbols.proofs.ImportedKinds.{class_stands}
use Rattle.symbols.proofs.imported.Imported.class_number.Goals as goal

pub returns-in-Class : goal.returns-in-Class
returns-in-Class c =
    let o = c.self.inside.outer.now in
    let name = c.args.name.now in
    let place = c.in_ok-place.place in
    let p : IsPlace (λ (b : OuterBinding). bytes_eq name b.name) o.bindings (Some place) = subst (IsPlace (λ (b : OuterBinding). bytes_eq name b.name) o.bindings) (sym c.in_ok-place.ensures) (c.self.invariant.named name) in
    let start : c.start_at.result ≡ Some (length (kinds_of (take place o.bindings))) = c.start_at.ensures ∙ (ap (λ (xs : List ℕ). slice_get xs place) c.as_slice.ensures.value ∙ c.self.invariant.begins place p.0) in
    subst (λ (v : Outer). StandsAt (kinds_of v.bindings) (class_kind (outer_kind v name)) c.start_at.result) c.self.view_is
    (subst (StandsAt (kinds_of o.bindings) (class_kind (outer_kind o name))) (sym start) (class_stands o name place _ c.at.result.now c.in-Class.field-0 p.1 c.at.ensures c.in-Class.is refl))
