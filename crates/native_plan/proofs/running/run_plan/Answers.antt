use Rattle.std.proofs.Common.{All, ◌∙◌, ap, subst, sym}
use Rattle.query_meaning.specs.Answers.{answer_of_rows}
use Rattle.query_meaning.specs.Asking.{IsRowChoice}
use Rattle.query_meaning.specs.declared.asking.Asked.{Asked}
use Rattle.native_plan.proofs.Found.{chosen_by_plan, given_by_plan}
use Rattle.native_plan.proofs.running.run_plan.Goals as goal

pub answer-requires-clause-chosen : goal.answer-requires-clause-chosen
answer-requires-clause-chosen g c =
    let asked : Asked = record { block = c.args.block; tables = c.args.tables; from = c.as_slice-2.result } in
    subst (All (IsRowChoice asked)) (sym c.as_slice-3.ensures.value)
    (chosen_by_plan asked c.args.plan.now c.requires.planned _ _ c.in_ok-found.found c.in_ok-found.ensures)

pub returns-clause-answer : goal.returns-clause-answer
returns-clause-answer g c =
    let asked : Asked = record { block = c.args.block; tables = c.args.tables; from = c.as_slice-2.result } in
    c.in_ok-answer.ensures
    ∙ ap (answer_of_rows c.args.tables.now c.args.block.now)
    (c.as_slice-3.ensures.value ∙ given_by_plan asked c.args.plan.now c.requires.planned _ _ c.in_ok-found.found c.in_ok-found.ensures)
