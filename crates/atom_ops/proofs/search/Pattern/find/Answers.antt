use Rattle.std.proofs.Common.{rules, ◌≡◌, ◌≢◌, ◌≤◌, ◌+◌, subst, sym, arith, length}
use Rattle.atom_ops.specs.Shared.{IsWindow}
use Rattle.atom_ops.proofs.Shared.{further_start, further_window}
use Rattle.atom_ops.proofs.Places.{not_before, stands}
use Rattle.atom_ops.proofs.search.Pattern.find.Goals as goal

pub returns-then-count-self : goal.returns-then-count-self
returns-then-count-self c =
    let whole : c.shared_at-count.result ≡ length c.args.self.now.part.now = search rules in
    record {
      place = record {
        there = stands _ _ _ _ (omega arith) c.shared_at-count.ensures.count whole;
        behind = search rules;
        first = c.loop-place.invariant.none;
      };
    }

pub loop-place-preserved : goal.loop-place-preserved
loop-place-preserved c =
    let part = c.args.self.now.part.now in
    let moved = c.or_further-window.ensures in
    let other : c.shared_at-count.result ≢ length part = search rules in
    record {
      behind = subst (λ w. w.start ≤ c.loop-place.place + 1) (sym moved) (further_start c.loop-place.window c.loop-place.place c.shared_at-count.result c.loop-place.invariant.behind);
      window = subst (IsWindow part c.args.text.now) (sym moved) (further_window part c.args.text.now c.loop-place.window c.loop-place.place c.shared_at-count.result c.loop-place.invariant.window c.shared_at-count.ensures.count);
      none = not_before part c.args.text.now c.args.from c.loop-place.place c.shared_at-count.result c.loop-place.invariant.none c.shared_at-count.ensures.count other;
    }
