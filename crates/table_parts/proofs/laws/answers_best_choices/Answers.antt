use Rattle.table_parts.proofs.JoinOutputs.{answers_choices}
use Rattle.table_parts.proofs.laws.answers_best_choices.Goals as goal

pub returns : goal.returns
returns c = answers_choices
