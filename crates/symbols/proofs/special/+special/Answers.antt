use Rattle.symbols.proofs.Arguments.{arguments_step}
use Rattle.symbols.specs.Contexts.{context_of}
use Rattle.symbols.proofs.special.+special.Goals as goal

pub any_argument_faulty-loop-arg-preserved : goal.any_argument_faulty-loop-arg-preserved
any_argument_faulty-loop-arg-preserved t c =
    arguments_step c.loop-arg.here c.args.around (context_of c.args.context.now) c.args.args.now c.loop-arg.arg-index c.arg-item.result c.is_faulty.result _ c.loop-arg-test.true c.arg-item.is c.is_faulty.ensures c.if-is_faulty.false c.loop-arg.invariant
