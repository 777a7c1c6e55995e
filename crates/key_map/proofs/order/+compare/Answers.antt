use Rattle.std.proofs.Common.{◌≡◌, ◌<◌, ◌∙◌, length, arith}
use Rattle.key_map.proofs.Lists.{ends_first}
use Rattle.key_map.proofs.order.+compare.Goals as goal

pub compare_items-returns-else-a-b : goal.compare_items-returns-else-a-b
compare_items-returns-else-a-b t c =
    let at_end : c.loop-place.place ≡ length c.args.a.now = omega arith in
    let shorter : length c.args.a.now < length c.args.b.now = omega (arith, c.loop-place.invariant.within) in
    ends_first _ _ _ at_end shorter ∙ c.loop-place.invariant.rest
