use Rattle.std.proofs.Common.{rules, ◌≢◌, length}
use Rattle.key_map.proofs.Lists.{unlike}
use Rattle.key_map.proofs.same.+are_same.Goals as goal

pub all_same-returns-then-a-b : goal.all_same-returns-then-a-b
all_same-returns-then-a-b t c = let other : length c.args.a.now ≢ length c.args.b.now = search rules in unlike _ _ other
