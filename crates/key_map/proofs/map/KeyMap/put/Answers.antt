use Rattle.std.proofs.Common.{rules, ◌≡◌, Some, None, ap, ◌∙◌, map}
use Rattle.std.specs.Map.{lookup}
use Rattle.indexmap.specs.IndexMap.{insert_entry}
use Rattle.key_map.specs.Entries.{entry_of}
use Rattle.key_map.proofs.Rows.{test, put_there, put_new}
use Rattle.key_map.proofs.map.KeyMap.put.Goals as goal

pub returns-in-Some-clause-ok : goal.returns-in-Some-clause-ok
returns-in-Some-clause-ok g c =
    let there : lookup (test c.args.key) c.args.self.now.rows.entries ≡ Some c.in-Some.row.now = search rules in
    let is = put_there c.args.key c.args.shown c.args.value c.args.self.now.rows.entries c.in-Some.row.now there in
    ap (map entry_of) (c.get_mut.follows.holds (record c.in-Some.row.now { value = c.args.value })).0 ∙ is

pub returns-in_ok-insert-in-None-clause-ok : goal.returns-in_ok-insert-in-None-clause-ok
returns-in_ok-insert-in-None-clause-ok g c =
    let none : lookup (test c.args.key) c.args.self.now.rows.entries ≡ None = search rules in
    let is = put_new c.args.key c.args.shown c.args.value c.args.self.now.rows.entries none in
    ap (map entry_of) c.in_ok-insert-in-None.ensures.entries
    ∙ ap (λ m. map entry_of (insert_entry test m.entries c.args.key (record { shown = c.args.shown; value = c.args.value }))) c.get_mut.follows.holds-at-none ∙ is
