use Rattle.prefsql_tables.proofs.ArrangementLemmas.{has_one}
use Rattle.prefsql_tables.proofs.answer.has_one_arrangement.Goals as goal

pub returns : goal.returns
returns c = has_one
