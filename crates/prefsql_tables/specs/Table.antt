-- What a set of tables holds at a place.
use Rattle.std.specs.Prelude.{ℕ, ◌≡◌, ◌<◌, List, [], length, slice_index_or}
use Rattle.prefsql_values.specs.declared.value.Value.{Value}
use Rattle.prefsql_values.specs.declared.value.Value.TheVariants.{Null}
use Rattle.prefsql_tables.specs.declared.schema.Column.{Column}
use Rattle.prefsql_tables.specs.declared.table.AnswerRow.{AnswerRow}
use Rattle.prefsql_tables.specs.TableData.{NamedTable}

abbrev pub Tables : Type 0
Tables = List NamedTable

abbrev pub no_table : NamedTable
no_table = record { name = []; table = record { columns = []; rows = [] } }

abbrev pub table_at : Tables → ℕ → NamedTable
table_at tables t = slice_index_or tables t no_table

abbrev pub rows_of : Tables → ℕ → List AnswerRow
rows_of tables t = (table_at tables t).table.rows

abbrev pub columns_of : Tables → ℕ → List Column
columns_of tables t = (table_at tables t).table.columns

-- the value in a column, and NULL past the end
abbrev pub cell_in : AnswerRow → ℕ → Value
cell_in row column = slice_index_or row.cells column Null

abbrev pub no_row : AnswerRow
no_row = record { cells = [] }

abbrev pub cell_at : Tables → ℕ → ℕ → ℕ → Value
cell_at tables t row column = cell_in (slice_index_or (rows_of tables t) row no_row) column

abbrev pub HasTable : Tables → ℕ → Type 0
HasTable tables t = t < length tables

-- the table, the row and the column are there
pub record HasCell (tables : Tables) (t row column : ℕ) : Type 0 where
  pub table : t < length tables
  pub row_in : row < length (rows_of tables t)
  pub column_in : column < length (columns_of tables t)

-- the table at the position has this name and these columns
pub record IsTableAt (tables : Tables) (index : ℕ) (called : List ℕ)
    (schema : List Column) : Type 0 where
  pub there : index < length tables
  pub name : (table_at tables index).name ≡ called
  pub columns : columns_of tables index ≡ schema
