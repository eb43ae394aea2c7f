use Rattle.std.proofs.Common.{◌≡◌, ◌<◌, ◌∙◌, Err, ap, sym, get_or, length, rules}
use Rattle.std.proofs.lemmas.Result.{err_from_is_err_and}
use Rattle.prefsql_session.specs.Texts.{query_text}
use Rattle.prefsql_session.specs.declared.halt.Halt.TheVariants.{WriteFault, Memory}
use Rattle.prefsql_session.proofs.WritingLemmas.{front_of_all, less_of_all}
use Rattle.prefsql_session.proofs.ResultLemmas.{err_same}
use Rattle.prefsql_session.proofs.executing.write_queries.Goals as goal

pub returns-in_err-write_query-clause-less : goal.returns-in_err-write_query-clause-less
returns-in_err-write_query-clause-less g c = λ failed.
    let p = err_from_is_err_and c.from_residual.result c.from_residual.ensures.1 in
    let same : c.in_err-write_query.field-0.0 ≡ WriteFault = sym p.2 ∙ err_same c.from_residual.result p.0 WriteFault p.1 failed in
    let lt : c.loop-query.query-index < length c.args.queries.now = search rules in
    let item : get_or c.args.queries.now c.loop-query.query-index c.query-item.result ≡ c.query-item.result = search rules in
    less_of_all (query_text c.args.tables.now) c.args.queries.now c.loop-query.query-index c.query-item.result item lt (g.O.Sink.written c.args.out.now)
    (g.O.Sink.written c.loop-query.out) (g.O.Sink.written c.write_query.new.out) c.loop-query.invariant.appended (c.in_err-write_query.ensures.less (ap Err same))

pub returns-in_err-write_query-clause-front : goal.returns-in_err-write_query-clause-front
returns-in_err-write_query-clause-front g c = λ failed.
    let p = err_from_is_err_and c.from_residual.result c.from_residual.ensures.1 in
    let same : c.in_err-write_query.field-0.0 ≡ Memory = sym p.2 ∙ err_same c.from_residual.result p.0 Memory p.1 failed in
    let lt : c.loop-query.query-index < length c.args.queries.now = search rules in
    let item : get_or c.args.queries.now c.loop-query.query-index c.query-item.result ≡ c.query-item.result = search rules in
    front_of_all (query_text c.args.tables.now) c.args.queries.now c.loop-query.query-index c.query-item.result item lt (g.O.Sink.written c.args.out.now)
    (g.O.Sink.written c.loop-query.out) (g.O.Sink.written c.write_query.new.out) c.loop-query.invariant.appended (c.in_err-write_query.ensures.kept (ap Err same))
