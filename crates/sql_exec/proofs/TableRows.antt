-- The rows of a table, cell by cell.
use Rattle.std.proofs.Common.{◌≡◌, ℕ, ◌<◌, ◌≤◌, ◌+◌, suc, List, [], ◌∷◌, ◌++◌, take, length, get_or, sym, ap, ◌∙◌, arith}
use Rattle.std.proofs.Math.Seq.{take-suc}
use Rattle.prefsql_values.specs.declared.value.Value.{Value}
use Rattle.prefsql_values.specs.declared.value.Value.TheVariants.{Null}
use Rattle.prefsql_tables.specs.Table.{Tables, columns_of, no_row, no_table, rows_of, table_at}
use Rattle.prefsql_tables.specs.Valid.{IsTable, IsTableSet}
use Rattle.prefsql_tables.proofs.ValidLemmas.{row_width}

table_valid : (tables : Tables) (t : ℕ) → IsTableSet tables → t < length tables → IsTable (table_at tables t).table
table_valid tables t valid within = valid.all_valid t no_table within

pub few_columns : (tables : Tables) (t : ℕ) → IsTableSet tables → t < length tables → length (columns_of tables t) ≤ 64
few_columns tables t valid within = (table_valid tables t valid within).schema.few

pub width : (tables : Tables) (t row : ℕ) → IsTableSet tables → t < length tables → row < length (rows_of tables t)
    → length (get_or (rows_of tables t) row no_row).cells ≡ length (columns_of tables t)
width tables t row valid within there = row_width (table_at tables t).table row no_row (table_valid tables t valid within) there

-- one cell more
pub next_cell : (cells row : List Value) (column : ℕ) (v : Value) → cells ≡ take column row → v ≡ get_or row column Null → column < length row → cells ++ v ∷ [] ≡ take (column + 1) row
next_cell cells row column v before is within =
    (λ j. before j ++ is j ∷ []) ∙ sym (take-suc row column Null within) ∙ ap (λ n. take n row) (let e : suc column ≡ column + 1 = omega arith in e)

pub ruleset row_laws = (few_columns, width)
