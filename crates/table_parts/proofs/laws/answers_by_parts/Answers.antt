use Rattle.table_parts.proofs.PartRows.{answers_parts}
use Rattle.table_parts.proofs.laws.answers_by_parts.Goals as goal

pub returns : goal.returns
returns c = answers_parts
