-- One statement on.
use Rattle.symbols.specs.Classes.{in_init}
use Rattle.symbols.proofs.Sets.{names_step}
use Rattle.symbols.proofs.classes.add_inits.Goals as goal

pub loop-statement-preserved : goal.loop-statement-preserved
loop-statement-preserved c =
    names_step in_init c.args.body.now c.loop-statement.statement-index c.statement-item.result c.loop-statement.names c.add_statement_init.new.names _
    c.loop-statement-test.true c.statement-item.is c.in_ok-add_statement_init.ensures c.loop-statement.invariant
