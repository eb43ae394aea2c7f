use Rattle.table_parts.proofs.JoinRows.{answers_kept_parts}
use Rattle.table_parts.proofs.laws.answers_by_kept_parts.Goals as goal

pub returns : goal.returns
returns c = answers_kept_parts
