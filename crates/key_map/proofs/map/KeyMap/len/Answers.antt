use Rattle.key_map.proofs.Rows.{distinct_keys}
use Rattle.key_map.proofs.map.KeyMap.len.Goals as goal

pub returns-clause-distinct : goal.returns-clause-distinct
returns-clause-distinct g c = distinct_keys c.args.self.now.rows.entries c.len.ensures.unique
