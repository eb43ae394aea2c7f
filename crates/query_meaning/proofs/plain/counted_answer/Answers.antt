use Rattle.std.proofs.Common.{◌≡◌, ◌∙◌, ap, All, sym, subst, filter}
use Rattle.prefsql_tables.specs.declared.place.Combo.{Combo}
use Rattle.query_meaning.specs.Answers.{kept_rows, passes, row_counts, seen}
use Rattle.query_meaning.specs.Choices.{IsChoice}
use Rattle.query_meaning.proofs.AnswerLemmas.{answer_of_kept}
use Rattle.query_meaning.proofs.AskedLemmas.{best_rows_chosen, kept_rows_chosen}
use Rattle.query_meaning.proofs.plain.counted_answer.Goals as goal

pub kept_rows-requires-clause-chosen : goal.kept_rows-requires-clause-chosen
kept_rows-requires-clause-chosen g c =
    let tables = c.args.tables.now in
    let block = c.args.block.now in
    subst (All (λ (combo : Combo). IsChoice (row_counts tables block.from) combo.rows)) (sym c.in_ok-best.ensures) (best_rows_chosen tables block)

pub answer-requires-clause-chosen : goal.answer-requires-clause-chosen
answer-requires-clause-chosen g c =
    let tables = c.args.tables.now in
    let block = c.args.block.now in
    let kept_is : c.as_slice-3.result.now ≡ kept_rows tables block = c.as_slice-3.ensures ∙ c.in_ok-kept.ensures ∙ ap (filter (λ combo. passes block.only (seen tables block combo))) c.in_ok-best.ensures in
    subst (All (λ (combo : Combo). IsChoice (row_counts tables block.from) combo.rows)) (sym kept_is) (kept_rows_chosen tables block)

pub returns : goal.returns
returns g c =
    let tables = c.args.tables.now in
    let block = c.args.block.now in
    let kept_is : c.as_slice-3.result.now ≡ kept_rows tables block = c.as_slice-3.ensures ∙ c.in_ok-kept.ensures ∙ ap (filter (λ combo. passes block.only (seen tables block combo))) c.in_ok-best.ensures in
    answer_of_kept tables block c.as_slice-3.result.now kept_is c.answer.result c.answer.ensures
