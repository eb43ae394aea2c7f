use Rattle.prefsql_session.specs.Texts.{query_text}
use Rattle.prefsql_session.proofs.WritingLemmas.{HasWritten}
use Rattle.prefsql_session.proofs.executing.write_queries.Given as goal

abbrev pub invariant-loop-query : goal.invariant-loop-query
invariant-loop-query g l =
    HasWritten (query_text l.tables) l.queries l.query-index
    (g.O.Sink.faults l.initial.out) (g.O.Sink.faults l.out) (g.O.Sink.written l.initial.out) (g.O.Sink.written l.out)
