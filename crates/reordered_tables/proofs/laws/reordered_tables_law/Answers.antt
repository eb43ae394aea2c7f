use Rattle.reordered_tables.proofs.OneAnswer.{one_answer}
use Rattle.reordered_tables.proofs.laws.reordered_tables_law.Goals as goal

pub returns : goal.returns
returns c = one_answer
