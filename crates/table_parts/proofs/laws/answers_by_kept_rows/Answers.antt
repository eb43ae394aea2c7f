use Rattle.table_parts.proofs.EnoughRows.{answers_kept}
use Rattle.table_parts.proofs.laws.answers_by_kept_rows.Goals as goal

pub returns : goal.returns
returns c = answers_kept
