-- The answer that shows some combinations is their output names and the arranged output values.
use Rattle.std.proofs.Common.{◌≡◌, ◌∙◌, ℕ, List, map, subst, Ok, Err}
use Rattle.std.specs.Prelude.{IfOk, Result}
use Rattle.prefsql_tables.specs.Arranged.{IsArranged}
use Rattle.prefsql_tables.specs.Arrangement.{HasOneArrangement, arranged}
use Rattle.prefsql_tables.specs.Table.{Tables}
use Rattle.prefsql_tables.specs.declared.answer.Answer.{Answer}
use Rattle.prefsql_tables.specs.declared.place.Combo.{Combo}
use Rattle.prefsql_tables.specs.declared.place.SortKey.{SortKey}
use Rattle.prefsql_tables.specs.declared.table.AnswerRow.{AnswerRow}
use Rattle.query_meaning.specs.Answers.{answer_of, answer_of_rows, kept_rows, output_row, seen}
use Rattle.query_meaning.specs.declared.block.Block.{Block}
use Rattle.query_meaning.specs.declared.block.Output.{Output}

module _ (tables : Tables) (block : Block) (combos : List Combo) (one : HasOneArrangement) where
  abbrev output_names : List (List ℕ)
  output_names = map (λ (output : Output). output.name) block.output

  abbrev output_rows : List AnswerRow
  output_rows = map (λ combo. output_row block (seen tables block combo)) combos

  is_answer : (answer : Answer) → answer.names ≡ output_names → IsArranged block.distinct block.order output_rows answer.rows → answer ≡ answer_of_rows tables block combos
  is_answer answer names rows =
      let same : answer.rows ≡ arranged block.distinct block.order output_rows = (one block.distinct block.order output_rows answer.rows).0 rows in
      λ j. record { names = names j; rows = same j }

  pub arranged_is_answer : {E : Type 0} (result : Result Answer E) (keys : List SortKey) (names : _) (rows : List AnswerRow)
      → keys ≡ block.order → names ≡ output_names → rows ≡ output_rows
      → IfOk result (λ answer. answer.names ≡ names) → IfOk result (λ answer. IsArranged block.distinct keys rows answer.rows)
      → IfOk result (λ answer. answer ≡ answer_of_rows tables block combos)
  arranged_is_answer (Ok answer) keys names rows keys_are names_are rows_are named arranged =
      is_answer answer (named ∙ names_are) (subst (λ given. IsArranged block.distinct block.order given answer.rows) rows_are (subst (λ by. IsArranged block.distinct by rows answer.rows) keys_are arranged))
  arranged_is_answer (Err error) keys names rows keys_are names_are rows_are named arranged = tt

-- the answer of a block is that of its kept rows
pub answer_of_kept : (tables : Tables) (block : Block) (combos : List Combo) → combos ≡ kept_rows tables block → {E : Type 0} (result : Result Answer E)
    → IfOk result (λ answer. answer ≡ answer_of_rows tables block combos) → IfOk result (λ answer. answer ≡ answer_of tables block)
unfolding answer_of
answer_of_kept tables block combos are (Ok answer) is = is ∙ (λ j. answer_of_rows tables block (are j))
answer_of_kept tables block combos are (Err error) is = tt
