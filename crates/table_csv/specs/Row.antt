-- What a row of a table file holds, and its faults. The rules are this project's own.
use Rattle.std.specs.Prelude.{ℕ, ◌+◌, not, ◌==◌, nat_lt, List, [], ◌∷◌, ◌++◌, length}
use Rattle.prefsql_values.specs.declared.value.Value.{Value}
use Rattle.prefsql_tables.specs.declared.schema.Column.{Column}
use Rattle.prefsql_tables.specs.declared.table.AnswerRow.{AnswerRow}
use Rattle.table_csv.specs.Cell.{cell_codes, cell_value}
use Rattle.table_csv.specs.Fault.{spots, when}
use Rattle.table_csv.specs.declared.fault.TableSpot.{TableSpot}

-- the faults of the cells of a record, from the field with this number on
abbrev pub cells_faults : ℕ → ℕ → List Column → List (List ℕ) → List TableSpot
cells_faults number place [] fields = []
cells_faults number place (column ∷ columns) [] = []
cells_faults number place (column ∷ columns) (field ∷ fields) =
    spots number place (cell_codes column field) ++ cells_faults number (place + 1) columns fields

-- the faults of the row in the record with this number, in their order. Record 100,002 holds the
-- 100,001st row
abbrev pub row_faults : List Column → ℕ → List (List ℕ) → List TableSpot
row_faults columns number fields =
    spots number 0 (when (not (length fields == length columns)) 503
    ++ when (nat_lt 100001 number) 508)
    ++ cells_faults number 1 columns fields

-- a value for each column
abbrev pub values_of : List Column → List (List ℕ) → List Value
values_of [] fields = []
values_of (column ∷ columns) [] = []
values_of (column ∷ columns) (field ∷ fields) = cell_value column field ∷ values_of columns fields

-- a row without a fault
abbrev pub row_of : List Column → List (List ℕ) → AnswerRow
row_of columns fields = record { cells = values_of columns fields }
