use Rattle.std.proofs.Common.{◌≡◌, ◌+◌, true, MatchOption, ap, subst, arith}
use Rattle.std.specs.List.{list_all}
use Rattle.registry_core.specs.Answer.{IsHandedOut}
use Rattle.registry_core.specs.Slots.{is_decided}
use Rattle.strict_top.proofs.OneLoader.{none_claimed_after, none_withdrawn_after}
use Rattle.strict_top.proofs.alone.decide_each.Goals as goal

pub loop-claim-preserved : goal.loop-claim-preserved
loop-claim-preserved g c =
    let handed = subst (λ o. MatchOption o (list_all is_decided c.next.new.registry.slots ≡ true)
    (λ claim. IsHandedOut g.L.Loads g.N.Naming c.loop-claim.registry c.next.new.registry c.next.new.room.rows 0 claim.module claim.loader
    × (c.next.new.share.amount ≡ c.loop-claim.share.amount + 1))) c.in-Some.is c.in_ok-claim.ensures.answer in
    let moved = ap (λ v. v.slots) handed.0.event in
    record {
      part = omega (arith, c.in_ok-decide.ensures.parts, c.in_ok-claim.ensures.parts, c.loop-claim.invariant.part);
      room = omega (arith, c.in_ok-claim.ensures.room, c.loop-claim.invariant.room);
      none_claimed = none_claimed_after _ _ _ _ _ moved c.in_ok-decide.ensures.decided c.loop-claim.invariant.none_claimed;
      none_withdrawn = none_withdrawn_after _ _ _ _ _ moved c.in_ok-decide.ensures.decided c.loop-claim.invariant.none_withdrawn;
    }
