use Rattle.std.proofs.Common.{◌≡◌, ◌<◌, get_or, length, rules}
use Rattle.std.proofs.lemmas.Result.{err_from_is_err_and}
use Rattle.prefsql_session.proofs.AnswerLemmas.{one_answered, stopped}
use Rattle.prefsql_session.proofs.answering.write_answers.Goals as goal

pub returns-in_err-write_answer-clause-wrote : goal.returns-in_err-write_answer-clause-wrote
returns-in_err-write_answer-clause-wrote g c =
    let p = err_from_is_err_and c.from_residual.result c.from_residual.ensures.1 in
    let lt : c.loop-block.block-index < length c.args.blocks.now = search rules in
    let item : get_or c.args.blocks.now c.loop-block.block-index c.block-item.result ≡ c.block-item.result = search rules in
    rw (p.1, p.2)
    (stopped c.args.tells c.args.tables.now c.args.blocks.now c.loop-block.block-index c.block-item.result item lt
    (g.O.Sink.faults c.args.out.now) (g.O.Sink.faults c.loop-block.out) (g.O.Sink.written c.args.out.now) (g.O.Sink.written c.loop-block.out)
    (g.E.Sink.faults c.args.err.now) (g.E.Sink.faults c.loop-block.err) (g.E.Sink.written c.args.err.now) (g.E.Sink.written c.loop-block.err)
    c.args.steps.now c.loop-block.steps c.loop-block.invariant
    (g.O.Sink.faults c.write_answer.new.out) (g.O.Sink.written c.write_answer.new.out) (g.E.Sink.faults c.write_answer.new.err) (g.E.Sink.written c.write_answer.new.err)
    c.write_answer.new.steps c.in_err-write_answer.field-0.0 c.in_err-write_answer.ensures.wrote)

pub loop-block-preserved : goal.loop-block-preserved
loop-block-preserved g c =
    let lt : c.loop-block.block-index < length c.args.blocks.now = search rules in
    let item : get_or c.args.blocks.now c.loop-block.block-index c.block-item.result ≡ c.block-item.result = search rules in
    let kept = c.in_ok-write_answer.ensures.kept (λ failed. search (rules, failed)) in
    one_answered c.args.tells c.args.tables.now c.args.blocks.now c.loop-block.block-index c.block-item.result item lt
    (g.O.Sink.faults c.args.out.now) (g.O.Sink.faults c.loop-block.out) (g.O.Sink.written c.args.out.now) (g.O.Sink.written c.loop-block.out)
    (g.E.Sink.faults c.args.err.now) (g.E.Sink.faults c.loop-block.err) (g.E.Sink.written c.args.err.now) (g.E.Sink.written c.loop-block.err)
    c.args.steps.now c.loop-block.steps c.loop-block.invariant
    (g.O.Sink.faults c.write_answer.new.out) (g.O.Sink.written c.write_answer.new.out) (g.E.Sink.faults c.write_answer.new.err) (g.E.Sink.written c.write_answer.new.err)
    c.write_answer.new.steps c.in_ok-write_answer.field-0 c.in_ok-write_answer.ensures.wrote kept.0 kept.1
