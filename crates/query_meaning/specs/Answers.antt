-- What a query answers: its candidates, the best of them, those that are kept, and what they show
-- (ISO/IEC 9075:1992, query specification; Kießling and Köstler 2002, PREFERRING, GROUPING and BUT
-- ONLY).
use Rattle.std.specs.Prelude.{ℕ, Bool, Option, Some, None, List, length, map, filter}
use Rattle.std.specs.List.{list_all}
use Rattle.std.specs.Ordering.{on}
use Rattle.prefsql_values.specs.Truth.{is_true}
use Rattle.prefsql_tables.specs.Arrangement.{arranged}
use Rattle.prefsql_tables.specs.Combos.{combos_of}
use Rattle.prefsql_tables.specs.Sight.{Sight}
use Rattle.prefsql_tables.specs.Table.{Tables, rows_of}
use Rattle.prefsql_tables.specs.declared.answer.Answer.{Answer}
use Rattle.prefsql_tables.specs.declared.place.ColumnPlace.{ColumnPlace}
use Rattle.prefsql_tables.specs.declared.place.Combo.{Combo}
use Rattle.prefsql_tables.specs.declared.table.AnswerRow.{AnswerRow}
use Rattle.order_laws.specs.Best.{best}
use Rattle.pref_terms.specs.declared.term.Term.{Term}
use Rattle.pref_terms.specs.Terms.{grouped_order, shown}
use Rattle.conditions.specs.declared.condition.Cond.{Cond}
use Rattle.conditions.specs.Meaning.{scalar_value, truth}
use Rattle.query_meaning.specs.declared.block.Block.{Block}
use Rattle.query_meaning.specs.declared.block.FromTable.{FromTable}
use Rattle.query_meaning.specs.declared.block.Output.{Output}

-- the position in the set of each FROM table
abbrev pub indexes_of : List FromTable → List ℕ
indexes_of = map (λ (table : FromTable). table.index)

-- what a combination of one row of each FROM table shows
abbrev pub seen : Tables → Block → Combo → Sight
seen tables block = shown tables (indexes_of block.from) 0

-- whether every condition is True
abbrev pub passes : List Cond → Sight → Bool
passes conds sight = list_all (λ cond. is_true (truth sight cond)) conds

-- how many rows each FROM table has
abbrev pub row_counts : Tables → List FromTable → List ℕ
row_counts tables = map (λ (table : FromTable). length (rows_of tables table.index))

-- one row of each FROM table, in lexicographic order
abbrev pub combinations : Tables → List FromTable → List Combo
combinations tables from = map (λ rows. record { rows = rows }) (combos_of (row_counts tables from))

-- the combinations for which WHERE is True
abbrev pub candidates : Tables → Block → List Combo
candidates tables block =
    filter (λ combo. passes block.filter (seen tables block combo)) (combinations tables block.from)

-- those that none of them betters within its group; all of them without a preference
abbrev pub best_by : Option Term → List ColumnPlace → (Combo → Sight) → List Combo → List Combo
best_by None groups see combos = combos
best_by (Some term) groups see combos = best (on see ((grouped_order groups term).better)) combos

abbrev pub best_rows : Tables → Block → List Combo
best_rows tables block =
    best_by block.term block.groups (seen tables block) (candidates tables block)

-- the best ones for which BUT ONLY is True
abbrev pub kept_rows : Tables → Block → List Combo
kept_rows tables block =
    filter (λ combo. passes block.only (seen tables block combo)) (best_rows tables block)

-- the output values of a combination
abbrev pub output_row : Block → Sight → AnswerRow
output_row block sight =
    record { cells = map (λ (output : Output). scalar_value sight output.scalar) block.output }

-- the answer that shows these combinations: the output names, and their output values, arranged
abbrev pub answer_of_rows : Tables → Block → List Combo → Answer
answer_of_rows tables block combos = record {
  names = map (λ (output : Output). output.name) block.output;
  rows = arranged block.distinct block.order (map
      (λ combo. output_row block (seen tables block combo)) combos);
}

-- the answer of a block shows its kept rows
unfoldable pub answer_of : Tables → Block → Answer
answer_of tables block = answer_of_rows tables block (kept_rows tables block)
