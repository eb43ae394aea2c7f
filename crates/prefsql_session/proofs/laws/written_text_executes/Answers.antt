use Rattle.std.proofs.Common.{Some, subst}
use Rattle.prefsql_session.specs.Course.{GoesOn}
use Rattle.prefsql_session.specs.Stage.{ready}
use Rattle.prefsql_session.proofs.ExecutedLemmas.{write_the_same}
use Rattle.prefsql_session.proofs.laws.written_text_executes.Goals as goal

pub returns : goal.returns
returns c = λ rewriting executing answering files others tables other_tables tells script work rewrites executes answers other comes is_written short.
    let is = subst (λ stage. GoesOn stage (Some script) (ready work)) rewrites comes in
    write_the_same tables other_tables tells script work other is is_written short executing answering others executes answers
