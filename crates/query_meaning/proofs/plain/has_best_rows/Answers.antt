use Rattle.query_meaning.proofs.BestLemmas.{best_rows_are_best}
use Rattle.query_meaning.proofs.plain.has_best_rows.Goals as goal

pub returns : goal.returns
returns c = best_rows_are_best
