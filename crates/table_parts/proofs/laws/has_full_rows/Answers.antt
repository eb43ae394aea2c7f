use Rattle.table_parts.proofs.PartRows.{full_in_valid}
use Rattle.table_parts.proofs.laws.has_full_rows.Goals as goal

pub returns : goal.returns
returns c = full_in_valid
