-- A table as it is kept: the cells of each column.
use Rattle.std.specs.Prelude.{ℕ, ◌≡◌, ◌≤◌, ◌<◌, List, [], ◌∷◌, length, map, slice_index_or, ◌⊎◌}
use Rattle.std.specs.List.{range_with_len}
use Rattle.prefsql_values.specs.declared.value.Domain.{Domain}
use Rattle.prefsql_values.specs.declared.value.Value.{Value}
use Rattle.prefsql_values.specs.declared.value.Value.TheVariants.{Null}
use Rattle.prefsql_tables.specs.CellsData.{CellsData, Admits}
use Rattle.prefsql_tables.specs.TableData.{TableData}
use Rattle.prefsql_tables.specs.Valid.{IsTable}
use Rattle.prefsql_tables.specs.declared.schema.Column.{Column}
use Rattle.prefsql_tables.specs.declared.table.AnswerRow.{AnswerRow}

abbrev pub values_in : List CellsData → ℕ → List Value
values_in columns column =
    slice_index_or (map (λ (cells : CellsData). cells.values) columns) column []

-- the value of a row in a column, and NULL where none is kept
abbrev pub cell_kept : List CellsData → ℕ → ℕ → Value
cell_kept columns row column = slice_index_or (values_in columns column) row Null

abbrev pub row_kept : List CellsData → ℕ → ℕ → AnswerRow
row_kept columns width row = record { cells = map (cell_kept columns row) (range_with_len 0 width) }

-- the table with these columns whose first rows are kept
abbrev pub table_kept : List Column → List CellsData → ℕ → TableData
table_kept columns cells count = record {
  columns = columns;
  rows = map (row_kept cells (length columns)) (range_with_len 0 count);
}

abbrev pub domains_of : List CellsData → List Domain
domains_of = map (λ (cells : CellsData). cells.domain)

-- cells of a column, none yet
abbrev pub no_cells : Column → CellsData
no_cells column = record { domain = column.domain; values = [] }

abbrev pub column_domains : List Column → List Domain
column_domains = map (λ (column : Column). column.domain)

-- each column has cells of its domain, or no column has cells yet
abbrev pub HaveDomains : List CellsData → List Column → Type 0
HaveDomains cells columns = (cells ≡ []) ⊎ (domains_of cells ≡ column_domains columns)

-- a valid table with cells for so many rows at least
pub record IsKept (columns : List Column) (cells : List CellsData) (count : ℕ) : Type 0 where
  pub table : IsTable (table_kept columns cells count)
  pub domains : HaveDomains cells columns
  pub reach : (column : ℕ) → column < length columns → count ≤ length (values_in cells column)

-- one value for each domain, which the domain admits
abbrev pub AdmitRow : List Domain → List Value → Type 0
AdmitRow [] [] = Unit {0}
AdmitRow [] (value ∷ values) = ⊥
AdmitRow (domain ∷ domains) [] = ⊥
AdmitRow (domain ∷ domains) (value ∷ values) = Admits domain value × AdmitRow domains values

-- the first rows are as they were
pub record KeepRows (count : ℕ) (old new : List CellsData) : Type 0 where
  pub domains : domains_of new ≡ domains_of old
  pub cells : (row column : ℕ) → row < count → cell_kept new row column ≡ cell_kept old row column
  pub reach : (column : ℕ) → count ≤ length (values_in old column)
      → count ≤ length (values_in new column)

-- the values stand in the row with this number
pub record HaveRow (row : ℕ) (values : List Value) (columns : List CellsData) : Type 0 where
  pub cells : (column : ℕ) → column < length values
      → cell_kept columns row column ≡ slice_index_or values column Null
  pub reach : (column : ℕ) → column < length values → row < length (values_in columns column)
