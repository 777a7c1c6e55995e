use Rattle.std.proofs.Common.{rules, ◌≡◌, ◌≤◌, ◌+◌, ◌++◌, ◌∷◌, [], subst, sym, ap, arith, length}
use Rattle.atom_ops.specs.Shared.{AreLengths, IsWindow}
use Rattle.atom_ops.proofs.Shared.{first_length, further_start, further_window, next_length}
use Rattle.atom_ops.proofs.search.own_lengths.Goals as goal

pub loop-place-init : goal.loop-place-init
loop-place-init c =
    let one : c.push.new.self.items ≡ length c.args.part.now ∷ [] = search rules in
    record {
      behind = omega arith;
      window = omega arith;
      count = ap length one;
      lengths = subst (AreLengths c.args.part.now) (sym one) (first_length c.args.part.now);
    }

pub loop-place-preserved : goal.loop-place-preserved
loop-place-preserved c =
    let more : c.push-in-loop-place.new.self.items ≡ c.loop-place.lengths.items ++ c.shared_at-count.result ∷ [] = search rules in
    let part = c.args.part.now in
    let moved = c.or_further-window.ensures in
    record {
      behind = subst (λ w. w.start ≤ c.loop-place.place + 1) (sym moved) (further_start c.loop-place.window c.loop-place.place c.shared_at-count.result c.loop-place.invariant.behind);
      window = subst (IsWindow part part) (sym moved) (further_window part part c.loop-place.window c.loop-place.place c.shared_at-count.result c.loop-place.invariant.window c.shared_at-count.ensures.count);
      count = search rules;
      lengths = subst (AreLengths part) (sym more) (next_length part c.loop-place.lengths.items c.loop-place.place c.shared_at-count.result c.loop-place.invariant.lengths c.loop-place.invariant.count c.shared_at-count.ensures.count);
    }
