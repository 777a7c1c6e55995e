use Rattle.std.proofs.Common.{rules}
use Rattle.key_map.proofs.Lists.{written}
use Rattle.key_map.proofs.KeysOf.{tuple_is}
use Rattle.key_map.proofs.hashing.+feed.Goals as goal

pub feed-returns-in-Tuple : goal.feed-returns-in-Tuple
feed-returns-in-Tuple g t c =
    let all = written g.H.Hasher.write c.args.state.now c.write_usize.new.self c.feed_all.new.state c.in-Tuple.items c.len.result (search rules) c.write_usize.ensures (search rules) in
    rw c.in-Tuple.is (rw (tuple_is c.in-Tuple.items) all)
