-- One binding more.
use Rattle.std.proofs.Common.{◌∙◌, ap, Some, bit_or}
use Rattle.symbols.proofs.Again.{more_of}
use Rattle.symbols.proofs.repeats.Repeats.with.Goals as goal

pub returns-in-Some : goal.returns-in-Some
returns-in-Some c earlier h =
    more_of earlier c.args.known c.in-Some.known record { kinds = c.and.result; second = Some c.unwrap_or.result } c.args.binding.now c.in-Some.is (c.and.ensures ∙ ap (bit_or c.in-Some.known.kinds.0) c.of-kind.ensures) (ap Some c.unwrap_or.ensures) h
