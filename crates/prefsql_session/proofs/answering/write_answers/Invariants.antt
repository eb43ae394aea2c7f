use Rattle.prefsql_session.proofs.AnswerLemmas.{HasAnswered}
use Rattle.prefsql_session.proofs.answering.write_answers.Given as goal

abbrev pub invariant-loop-block : goal.invariant-loop-block
invariant-loop-block g l =
    HasAnswered l.tells l.tables l.blocks l.block-index
    (g.O.Sink.faults l.initial.out) (g.O.Sink.faults l.out) (g.O.Sink.written l.initial.out) (g.O.Sink.written l.out)
    (g.E.Sink.faults l.initial.err) (g.E.Sink.faults l.err) (g.E.Sink.written l.initial.err) (g.E.Sink.written l.err)
    l.initial.steps l.steps
