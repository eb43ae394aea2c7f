use Rattle.std.proofs.Common.{vec_len, ◌+◌, ◌-◌}
use Rattle.prefsql_io.proofs.Progress.{HasRead}
use Rattle.prefsql_io.proofs.reading.read_to_end.Given as goal

abbrev pub invariant-loop-chunk : goal.invariant-loop-chunk
invariant-loop-chunk g l =
    HasRead (g.S.Source.left l.initial.source) (g.S.Source.left l.source) l.bytes.items l.limit
    (g.S.Source.faults l.initial.source) (g.S.Source.faults l.source)

abbrev pub decreases-loop-chunk : goal.decreases-loop-chunk
decreases-loop-chunk g l = l.limit + 1 - vec_len l.bytes
