use Rattle.std.proofs.Common.{◌≡◌, map}
use Rattle.module_load.specs.Folders.{file_of}
use Rattle.strict_top.specs.Reports.{report_of}
use Rattle.strict_top.specs.Steps.{paired}
use Rattle.strict_top.proofs.ReportLemmas.{lines_from}
use Rattle.strict_top.proofs.Writing.{HasWritten}
use Rattle.strict_top.proofs.report.write_report.Given as goal

-- the lines of the modules so far are written, and nothing has failed
abbrev pub invariant-loop-number : goal.invariant-loop-number
invariant-loop-number g l =
    let s = g.S.Sink in record {
      so_far : HasWritten (report_of (paired (map file_of l.files) l.world)).bytes (lines_from l.number l.files l.world) (s.written l.initial.sink) (s.written l.sink) (s.room l.initial.sink) (s.room l.sink);
      count : s.faults l.sink ≡ s.faults l.initial.sink;
    }
