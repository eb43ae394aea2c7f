use Rattle.std.proofs.KnownBytes.{Consumes-trans}
use Rattle.prefsql_io.proofs.reading.read_to_end.Goals as goal

pub returns-then-is_err-clause-refused : goal.returns-then-is_err-clause-refused
returns-then-is_err-clause-refused g c =
    (_, Consumes-trans _ _ _ _ _ c.loop-chunk.invariant.taken c.in-Ok.ensures.bytes.0)
