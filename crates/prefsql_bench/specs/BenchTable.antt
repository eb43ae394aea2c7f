-- The table of the bench. It is this project's own.
use Rattle.std.specs.Prelude.{ℕ, ◌+◌, ◌*◌, ◌%◌, pos, false, List, [], ◌∷◌, map, codes}
use Rattle.std.specs.List.{range_with_len}
use Rattle.prefsql_values.specs.declared.value.Domain.TheVariants.{Integer}
use Rattle.prefsql_values.specs.declared.value.Value.{Value}
use Rattle.prefsql_values.specs.declared.value.Value.TheVariants.{Num}
use Rattle.prefsql_tables.specs.Table.{Tables}
use Rattle.prefsql_tables.specs.TableData.{TableData}
use Rattle.prefsql_tables.specs.declared.schema.Column.{Column}
use Rattle.prefsql_tables.specs.declared.table.AnswerRow.{AnswerRow}
use Rattle.prefsql_bench.specs.Draws.{drawn}

-- a column of whole numbers without NULL
abbrev pub number_column : List ℕ → Column
number_column name = record { name = name; domain = Integer; nullable = false }

abbrev pub bench_columns : List Column
bench_columns =
    map number_column (codes "ID" ∷ codes "A" ∷ codes "B" ∷ codes "C" ∷ codes "G" ∷ [])

-- the numbers of the row at a place, from 0: its ID counts from 1, then come four draws, the first
-- three below 1000 for A, B and C, the last below 10 for G
abbrev pub bench_numbers : ℕ → List ℕ
bench_numbers place =
    let before = 4 * place in
    (place + 1)
    ∷ (drawn (before + 1) % 1000)
    ∷ (drawn (before + 2) % 1000)
    ∷ (drawn (before + 3) % 1000)
    ∷ (drawn (before + 4) % 10) ∷ []

abbrev pub number_value : ℕ → Value
number_value n = Num (pos n)

abbrev pub bench_row : ℕ → AnswerRow
bench_row place = record { cells = map number_value (bench_numbers place) }

-- so many rows
abbrev pub bench_rows : ℕ → List AnswerRow
bench_rows count = map bench_row (range_with_len 0 count)

abbrev pub bench_data : ℕ → TableData
bench_data count = record { columns = bench_columns; rows = bench_rows count }

-- the set of that table alone
abbrev pub bench_set : ℕ → Tables
bench_set count = record { name = codes "BENCH"; table = bench_data count } ∷ []
