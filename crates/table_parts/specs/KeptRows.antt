-- Which rows of a table are enough for a query over it (best matches only: Kießling and Köstler
-- 2002).
use Rattle.std.specs.Prelude.{◌≡◌, ◌++◌, Bool, false, Option, Some, None, List, [], ◌∷◌, map, filter}
use Rattle.std.specs.Prelude.{Contains, slice_index_or}
use Rattle.std.specs.List.Sorted.{IsPermutation}
use Rattle.prefsql_tables.specs.Sight.{Sight}
use Rattle.prefsql_tables.specs.Table.{Tables, cell_in, no_row, rows_of}
use Rattle.prefsql_tables.specs.declared.place.ColumnPlace.{ColumnPlace}
use Rattle.prefsql_tables.specs.declared.table.AnswerRow.{AnswerRow}
use Rattle.order_laws.specs.Best.{best}
use Rattle.pref_terms.specs.declared.term.Term.{Term}
use Rattle.pref_terms.specs.Terms.{grouped_order}
use Rattle.query_meaning.specs.Answers.{answer_of, passes}
use Rattle.query_meaning.specs.BlockFits.{HasPlaces}
use Rattle.query_meaning.specs.declared.block.Block.{Block}
use Rattle.query_meaning.specs.declared.block.FromTable.{FromTable}

-- what one row of each FROM table shows
abbrev pub rows_sight : List AnswerRow → Sight
rows_sight rows place = cell_in (slice_index_or rows place.table no_row) place.column

-- the rows of each FROM table
abbrev pub rows_from : Tables → List FromTable → List (List AnswerRow)
rows_from tables = map (λ (table : FromTable). rows_of tables table.index)

-- what a row shows to a query over its table alone
abbrev pub row_sight : AnswerRow → Sight
row_sight row = rows_sight (row ∷ [])

-- better by the preference, and of the same group; without a preference no row is
abbrev pub row_better : Option Term → List ColumnPlace → AnswerRow → AnswerRow → Bool
row_better None groups y x = false
row_better (Some term) groups y x = (grouped_order groups term).better (row_sight y) (row_sight x)

-- the rows for which WHERE is True and that none of these betters within its group
abbrev pub best_table_rows : Block → List AnswerRow → List AnswerRow
best_table_rows block rows =
    best (row_better block.term block.groups)
    (filter (λ row. passes block.filter (row_sight row)) rows)

-- some rows of a table are kept, in any order, and no row that is left out is a best one
pub record KeepsBestRows (block : Block) (rows kept : List AnswerRow) : Type 0 where
  pub left_out : List AnswerRow
  pub parted : IsPermutation rows (kept ++ left_out)
  pub none_best : (row : AnswerRow) → Contains left_out row
      → ¬ Contains (best_table_rows block rows) row

-- over the kept rows a query has the answer that it has over all
abbrev pub AnswersByKeptRows : Type 0
AnswersByKeptRows =
    (block : Block) (table : FromTable) (whole kept : Tables) → HasPlaces block
    → block.from ≡ table ∷ []
    → KeepsBestRows block (rows_of whole table.index) (rows_of kept table.index)
    → answer_of kept block ≡ answer_of whole block
