-- A class that stands earlier comes first, then an imported one, and then those of the language.
use Rattle.std.proofs.Common.{◌≡◌, ◌∙◌, ap, subst, sym, Some, None}
use Rattle.std.specs.Option.{option_or}
use Rattle.symbols.specs.Classes.{base_or, class_kind, earlier_class, outer_kind, own_base}
use Rattle.symbols.specs.ClassViews.{StandsAt, found_at, kinds_of}
use Rattle.symbols.proofs.ClassLists.{is_earlier, is_imported}
use Rattle.symbols.proofs.bases.named_base.Goals as goal

pub returns-in-Some : goal.returns-in-Some
returns-in-Some c = is_earlier c.args.earlier.now c.args.name.now c.in-Some.number c.in-Some.ensures

pub returns-in-Some-class_number : goal.returns-in-Some-class_number
returns-in-Some-class_number c =
    let t = c.args.earlier.now in
    let name = c.args.name.now in
    let none : earlier_class (found_at t) name ≡ None = c.in-None.ensures in
    is_imported t (option_or (earlier_class (found_at t) name) (class_kind (outer_kind t.outer name))) (own_base name) c.in-Some-class_number.number
    (subst (λ o. StandsAt (kinds_of o.bindings) (class_kind (outer_kind o name)) (Some c.in-Some-class_number.number)) c.imported.ensures c.in-Some-class_number.ensures) (ap (λ o. option_or o (class_kind (outer_kind t.outer name))) none)

pub returns-in-None-class_number : goal.returns-in-None-class_number
returns-in-None-class_number c =
    let t = c.args.earlier.now in
    let name = c.args.name.now in
    let b = c.own_base.ensures t in
    record {
      is = b.is ∙ sym (ap (λ o. base_or (option_or o (class_kind (outer_kind t.outer name))) (own_base name)) c.in-None.ensures ∙ ap (λ o. base_or o (own_base name)) (ap (λ o. class_kind (outer_kind o name)) (sym c.imported.ensures) ∙ c.in-None-class_number.ensures));
      placed = b.placed;
    }
