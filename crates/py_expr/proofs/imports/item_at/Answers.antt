use Rattle.py_expr.proofs.ImportLists.{item_renamed, item_alone}
use Rattle.py_expr.proofs.imports.item_at.Goals as goal

pub returns-in_ok-copy-in-Some-alias_at : goal.returns-in_ok-copy-in-Some-alias_at
returns-in_ok-copy-in-Some-alias_at c =
    item_renamed c.args.tokens.now c.in-Some.more.now c.in-Some-alias_at.rest.now c.in-Some.name.now c.in-Some-alias_at.alias.now c.in_ok-name.name c.in_ok-copy-in-Some-alias_at.field-0
    c.in-Some.ensures c.in-Some-alias_at.ensures c.in_ok-name.ensures.equal c.in_ok-copy-in-Some-alias_at.ensures.equal

pub returns-in-None : goal.returns-in-None
returns-in-None c = item_alone c.args.tokens.now c.in-Some.more.now c.in-Some.name.now c.in_ok-name.name c.in-Some.ensures c.in-None.ensures c.in_ok-name.ensures.equal
