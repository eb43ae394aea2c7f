use Rattle.table_parts.proofs.JoinTyping.{types_choices}
use Rattle.table_parts.proofs.laws.types_best_choices.Goals as goal

pub returns : goal.returns
returns c = types_choices
