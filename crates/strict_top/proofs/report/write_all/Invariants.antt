use Rattle.std.proofs.Common.{◌≡◌, length}
use Rattle.strict_top.proofs.Writing.{HasWritten}
use Rattle.strict_top.proofs.report.write_all.Given as goal

-- the bytes up to the rest are written, and nothing has failed
abbrev pub invariant-loop-rest : goal.invariant-loop-rest
invariant-loop-rest g l =
    let s = g.S.Sink in record {
      so_far : HasWritten l.bytes l.rest (s.written l.initial.sink) (s.written l.sink) (s.room l.initial.sink) (s.room l.sink);
      count : s.faults l.sink ≡ s.faults l.initial.sink;
    }

abbrev pub decreases-loop-rest : goal.decreases-loop-rest
decreases-loop-rest g l = length l.rest
