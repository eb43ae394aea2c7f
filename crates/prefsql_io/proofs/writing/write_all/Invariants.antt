use Rattle.std.proofs.Common.{length, ◌-◌}
use Rattle.prefsql_io.proofs.Progress.{HasWritten}
use Rattle.prefsql_io.proofs.writing.write_all.Given as goal

abbrev pub invariant-loop-at : goal.invariant-loop-at
invariant-loop-at g l =
    HasWritten (g.O.Sink.written l.initial.out) (g.O.Sink.written l.out) l.bytes l.at
    (g.O.Sink.faults l.initial.out) (g.O.Sink.faults l.out)

abbrev pub decreases-loop-at : goal.decreases-loop-at
decreases-loop-at g l = length l.bytes - l.at
