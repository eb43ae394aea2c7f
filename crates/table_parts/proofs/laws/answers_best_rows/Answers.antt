use Rattle.table_parts.proofs.PartRows.{answers_best}
use Rattle.table_parts.proofs.laws.answers_best_rows.Goals as goal

pub returns : goal.returns
returns c = answers_best
