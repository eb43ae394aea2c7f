use Rattle.std.proofs.Common.{◌≡◌, ◌∙◌, Err, Some, ap, sym}
use Rattle.std.proofs.lemmas.Result.{err_from_is_err_and}
use Rattle.prefsql_session.specs.Opening.{tables_stage}
use Rattle.prefsql_session.specs.declared.command.Command.TheVariants.{OnScript}
use Rattle.prefsql_session.specs.declared.fault.Stop.TheVariants.{ShelfFault}
use Rattle.prefsql_session.proofs.PrepareLemmas.{missing_tables, no_tables, script_read}
use Rattle.prefsql_session.proofs.ResultLemmas.{err_same}
use Rattle.prefsql_session.proofs.prepare.prepare_script.Goals as goal

pub returns-in_err-tables-clause-follows : goal.returns-in_err-tables-clause-follows
returns-in_err-tables-clause-follows g c =
    let p = err_from_is_err_and c.from_residual.result c.from_residual.ensures.1 in
    rw (p.1, p.2)
    (no_tables c.args.task c.args.words.now (tables_stage (g.H.Shelf.files c.args.shelf.now) c.args.words.now) (g.S.Source.left c.args.script.now) c.in_err-tables.field-0.0
    c.in_err-tables.ensures.follows (λ e. c.in_err-tables.ensures.asked (ap Err e)))

pub returns-in_err-tables-clause-sure : goal.returns-in_err-tables-clause-sure
returns-in_err-tables-clause-sure g c = λ sure failed.
    let p = err_from_is_err_and c.from_residual.result c.from_residual.ensures.1 in
    let same : c.in_err-tables.field-0.0 ≡ ShelfFault = sym p.2 ∙ err_same c.from_residual.result p.0 ShelfFault p.1 failed in
    missing_tables c.args.task (tables_stage (g.H.Shelf.files c.args.shelf.now) c.args.words.now) (c.in_err-tables.ensures.sure sure (ap Err same))

pub returns-clause-follows : goal.returns-clause-follows
returns-clause-follows g c =
    script_read c.args.task (tables_stage (g.H.Shelf.files c.args.shelf.now) c.args.words.now) (g.S.Source.left c.args.script.now)
    (Some (OnScript c.args.task c.args.words.now)) c.in_ok-tables.tables c.read_work.result c.in_ok-tables.ensures.follows c.read_work.ensures.follows
