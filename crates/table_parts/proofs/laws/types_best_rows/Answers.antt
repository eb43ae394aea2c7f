use Rattle.table_parts.proofs.PartTyping.{types_best}
use Rattle.table_parts.proofs.laws.types_best_rows.Goals as goal

pub returns : goal.returns
returns c = types_best
