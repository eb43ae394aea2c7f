use Rattle.std.proofs.Common.{◌∙◌, ap}
use Rattle.std.proofs.lemmas.Result.{IfOk-weaker}
use Rattle.query_meaning.specs.Answers.{answer_of, answer_of_rows}
use Rattle.prefsql_session.proofs.answering.answered.Goals as goal

pub returns-clause-answer : goal.returns-clause-answer
unfolding answer_of
returns-clause-answer g c =
    IfOk-weaker c.run_plan.result _ _
    (λ found is. is ∙ ap (answer_of_rows c.args.tables.now c.args.block.now) (c.in_ok-plan.ensures.meaning c.args.tables.now)) c.run_plan.ensures.answer
