use Rattle.std.proofs.Common.{◌≡◌, ◌≤◌, Ok, Some, length, subst, sym}
use Rattle.std.proofs.lemmas.Result.{err_from_is_err_and}
use Rattle.prefsql_session.specs.Parts.{Ends}
use Rattle.prefsql_session.specs.ScriptEnd.{script_limit}
use Rattle.prefsql_session.specs.declared.work.Work.TheVariants.{Queries, Statements}
use Rattle.prefsql_session.proofs.PrepareLemmas.{asked, sql_asked, sql_stopped, stopped}
use Rattle.prefsql_session.proofs.script.text_work.Goals as goal

pub returns-in_err-blocks-in-Ask-clause-follows : goal.returns-in_err-blocks-in-Ask-clause-follows
returns-in_err-blocks-in-Ask-clause-follows c =
    let p = err_from_is_err_and c.from_residual.result c.from_residual.ensures.1 in
    let short : length c.args.text.now ≤ 1048576 = subst (λ t. length c.args.text.now ≤ script_limit t) c.in-Ask.is c.requires in
    subst (λ t. Ends t c.args.tables (Some c.args.text.now) c.from_residual.result) (sym c.in-Ask.is)
    (rw (p.1, p.2) (stopped c.in-Ask.wish c.args.tables c.args.text.now short c.in_err-blocks-in-Ask.field-0.0 c.in_err-blocks-in-Ask.ensures.asks))

pub returns-in_ok-blocks-in-Ask-clause-follows : goal.returns-in_ok-blocks-in-Ask-clause-follows
returns-in_ok-blocks-in-Ask-clause-follows c =
    let short : length c.args.text.now ≤ 1048576 = subst (λ t. length c.args.text.now ≤ script_limit t) c.in-Ask.is c.requires in
    subst (λ t. Ends t c.args.tables (Some c.args.text.now) (Ok (Statements c.in-Ask.wish c.args.tables c.in_ok-blocks-in-Ask.blocks))) (sym c.in-Ask.is)
    (asked c.in-Ask.wish c.args.tables c.args.text.now short c.in_ok-blocks-in-Ask.blocks c.in_ok-blocks-in-Ask.ensures.asks)

pub returns-in_err-queries-in-Execute-clause-follows : goal.returns-in_err-queries-in-Execute-clause-follows
returns-in_err-queries-in-Execute-clause-follows c =
    let p = err_from_is_err_and c.from_residual-in_err-queries-in-Execute.result c.from_residual-in_err-queries-in-Execute.ensures.1 in
    let short : length c.args.text.now ≤ 268435456 = subst (λ t. length c.args.text.now ≤ script_limit t) c.in-Execute.is c.requires in
    subst (λ t. Ends t c.args.tables (Some c.args.text.now) c.from_residual-in_err-queries-in-Execute.result) (sym c.in-Execute.is)
    (rw (p.1, p.2) (sql_stopped c.args.tables c.args.text.now short c.in_err-queries-in-Execute.field-0.0 c.in_err-queries-in-Execute.ensures.reads))

pub returns-in_ok-queries-in-Execute-clause-follows : goal.returns-in_ok-queries-in-Execute-clause-follows
returns-in_ok-queries-in-Execute-clause-follows c =
    let short : length c.args.text.now ≤ 268435456 = subst (λ t. length c.args.text.now ≤ script_limit t) c.in-Execute.is c.requires in
    subst (λ t. Ends t c.args.tables (Some c.args.text.now) (Ok (Queries c.args.tables c.in_ok-queries-in-Execute.queries))) (sym c.in-Execute.is)
    (sql_asked c.args.tables c.args.text.now short c.in_ok-queries-in-Execute.queries c.in_ok-queries-in-Execute.ensures.reads)
