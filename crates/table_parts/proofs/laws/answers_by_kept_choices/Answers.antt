use Rattle.table_parts.proofs.EnoughChoices.{answers_kept_choices}
use Rattle.table_parts.proofs.laws.answers_by_kept_choices.Goals as goal

pub returns : goal.returns
returns c = answers_kept_choices
