use Rattle.std.proofs.Common.{refl}
use Rattle.std.proofs.lemmas.Result.{err_from_is_err_and}
use Rattle.prefsql_session.proofs.PrepareLemmas.{parse_stopped, type_stopped}
use Rattle.prefsql_session.proofs.TypedLemmas.{typed_answerable}
use Rattle.prefsql_session.proofs.script.queries.Goals as goal

pub returns-in_err-trees-clause-asks : goal.returns-in_err-trees-clause-asks
returns-in_err-trees-clause-asks c =
    let p = err_from_is_err_and c.from_residual-in_err-trees.result c.from_residual-in_err-trees.ensures.1 in
    rw (p.1, p.2)
    (parse_stopped c.args.tables.now c.args.text.now c.in_ok-tokens.tokens c.as_slice.result.now _ c.in_err-trees.field-0.0 c.in_ok-tokens.ensures.tokens c.as_slice.ensures refl
    c.in_err-trees.ensures.fault)

pub returns-in_err-type_script-clause-asks : goal.returns-in_err-type_script-clause-asks
returns-in_err-type_script-clause-asks c =
    let p = err_from_is_err_and c.from_residual-in_err-type_script.result c.from_residual-in_err-type_script.ensures.1 in
    rw (p.1, p.2)
    (type_stopped c.args.tables.now c.args.text.now c.in_ok-tokens.tokens c.as_slice.result.now c.in_ok-trees.trees c.as_slice-2.result.now c.in_err-type_script.field-0.0
    c.in_ok-tokens.ensures.tokens c.as_slice.ensures c.in_ok-trees.ensures.script c.as_slice-2.ensures c.in_err-type_script.ensures)

pub returns-clause-answerable : goal.returns-clause-answerable
returns-clause-answerable c = typed_answerable c.args.tables.now c.as_slice-2.result.now _ c.in_ok-type_script.ensures
