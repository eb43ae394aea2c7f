use Rattle.table_parts.proofs.EnoughChoices.{best_of_fewer}
use Rattle.table_parts.proofs.laws.has_best_of_fewer.Goals as goal

pub returns : goal.returns
returns c = best_of_fewer
