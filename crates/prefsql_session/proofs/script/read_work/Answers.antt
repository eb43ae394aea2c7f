use Rattle.std.proofs.lemmas.Result.{err_from_is_err_and}
use Rattle.prefsql_session.proofs.PrepareLemmas.{read_end, unread}
use Rattle.prefsql_session.proofs.script.read_work.Goals as goal

pub returns-in_err-text-clause-follows : goal.returns-in_err-text-clause-follows
returns-in_err-text-clause-follows g c =
    let p = err_from_is_err_and c.from_residual.result c.from_residual.ensures.1 in
    rw (p.1, p.2)
    (unread c.args.task c.args.tables (g.S.Source.left c.args.script.now) c.script_limit.result c.in_err-text.field-0.0 c.script_limit.ensures c.in_err-text.ensures.follows)

pub returns-clause-follows : goal.returns-clause-follows
returns-clause-follows g c =
    read_end c.args.task c.args.tables (g.S.Source.left c.args.script.now) c.in_ok-text.text.items c.deref.result.now c.text_work.result c.deref.ensures.value
    c.in_ok-text.ensures.follows.1 c.text_work.ensures.follows
