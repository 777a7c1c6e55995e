-- A class more stands behind the others, under its name.
use Rattle.std.proofs.Common.{◌≡◌, ◌∙◌, ap, sym, subst, length, ◌++◌, ◌∷◌, []}
use Rattle.symbols.specs.BasePlaces.{ArePlaced, IsPlaced}
use Rattle.symbols.specs.ClassViews.{Tabled, found_at, found_in, joined_last, kinds_of, joined}
use Rattle.symbols.specs.Places.{class_name}
use Rattle.symbols.proofs.ClassLists.{found_in-push, length-joined_behind, placed-push}
use Rattle.symbols.proofs.Places.{kept}
use Rattle.symbols.proofs.class_table.ClassTable.with.Goals as goal

pub invariant_of-result : goal.invariant_of-result
invariant_of-result c =
    let o = c.self.inside.imported in
    let own = c.self.inside.own in
    let pushed : c.push.new.self ≡ own ++ c.args.class ∷ [] = c.in_ok-push.ensures.ok in
    let placed : IsPlaced (length (kinds_of o.bindings)) (length own) c.args.class.base = subst (λ (t : Tabled). IsPlaced (length (kinds_of t.outer.bindings)) (length t.own) c.args.class.base) (sym c.self.view_is) c.requires.placed in
    record {
      placed = subst (ArePlaced (kinds_of o.bindings)) (sym pushed) (placed-push (kinds_of o.bindings) own c.args.class c.self.invariant.placed placed);
      numbered =
          kept class_name (found_in o own) (found_in o c.push.new.self) (joined o.number (kinds_of o.bindings) (found_in o own) c.args.class) c.args.name.now c.len.result c.self.inside.numbers c.keep.new.self
          c.requires.named (c.len.ensures ∙ sym (length-joined_behind o.number (kinds_of o.bindings) own [])) (ap (found_in o) pushed ∙ found_in-push o own c.args.class) c.in_ok-keep.ensures.found c.self.invariant.numbered;
    }

pub returns-clause-found : goal.returns-clause-found
returns-clause-found c = subst (λ (t : Tabled). found_in c.self.inside.imported c.push.new.self ≡ found_at t ++ joined_last t c.args.class ∷ []) c.self.view_is (ap (found_in c.self.inside.imported) c.in_ok-push.ensures.ok ∙ found_in-push c.self.inside.imported c.self.inside.own c.args.class)
