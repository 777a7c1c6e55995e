-- Down by the classes that were climbed, with the methods of each.
use Rattle.std.proofs.Common.{◌≡◌, ◌∙◌, ap, subst}
use Rattle.symbols.specs.declared.class.BasePlace.{BasePlace}
use Rattle.symbols.specs.declared.class.BasePlace.TheVariants as place
use Rattle.symbols.specs.Bindings.{first_mentions}
use Rattle.symbols.specs.Classes.{base_methods}
use Rattle.symbols.specs.Lineages.{Climbs, kind_of}
use Rattle.symbols.proofs.Reading.{climbs_next, climbs_top, methods_step, top_of}
use Rattle.symbols.proofs.class_list.FoundClasses.all_methods.Goals as goal

pub loop-next-init : goal.loop-next-init
loop-next-init c =
    let all = c.args.self.now in
    let top : place.None ≡ top_of all c.args.place c.in_ok-climbed.climbed.items = climbs_top all c.in_ok-climbed.climbed.items c.args.place place.None c.in_ok-climbed.ensures in
    record {
      climbs = subst (Climbs all c.args.place c.in_ok-climbed.climbed.items) top c.in_ok-climbed.ensures;
      names = c.new-names.ensures ∙ ap (λ (p : BasePlace). first_mentions (base_methods (kind_of all p))) top;
    }

pub loop-next-preserved : goal.loop-next-preserved
loop-next-preserved c =
    let all = c.args.self.now in
    let n = climbs_next all c.loop-next.climbed.items c.pop.new.self.items c.args.place c.in-Some.next c.in-Some.ensures.items c.loop-next.invariant.climbs in
    record {
      climbs = n.0;
      names = methods_step all c.in-Some.next (top_of all c.args.place c.loop-next.climbed.items) (top_of all c.args.place c.pop.new.self.items) c.loop-next.names c.add_texts.new.names c.methods_at.result.now (n.1).1 (n.1).0 c.methods_at.ensures c.loop-next.invariant.names c.in_ok-add_texts.ensures;
    }
