use Rattle.prefsql_rows.proofs.TypedLemmas.{typed_fits, typed_valid}
use Rattle.prefsql_rows.proofs.cars.queries.Goals as goal

pub returns-clause-valid : goal.returns-clause-valid
returns-clause-valid c =
    typed_valid c.args.tables.now c.as_slice-2.result.now _ c.in_ok-type_script.ensures

pub returns-clause-fits : goal.returns-clause-fits
returns-clause-fits c =
    typed_fits c.args.tables.now c.as_slice-2.result.now _ c.in_ok-type_script.ensures
