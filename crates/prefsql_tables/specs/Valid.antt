-- Which names, columns, rows, tables and sets of tables are valid. The rules and limits are this
-- project's own.
use Rattle.std.specs.Prelude.{ℕ, ◌≡◌, ◌≢◌, ◌≤◌, ◌^◌, List, [], ◌∷◌, length, map, All, AllPairs}
use Rattle.std.specs.Prelude.{IsTrue}
use Rattle.prefsql_values.specs.Limits.{IsName, IsShort}
use Rattle.prefsql_values.specs.declared.value.Domain.TheVariants.{Integer, Chars}
use Rattle.prefsql_values.specs.declared.value.Value.{Value}
use Rattle.prefsql_values.specs.declared.value.Value.TheVariants.{Num, Str, Null}
use Rattle.prefsql_tables.specs.declared.schema.Column.{Column}
use Rattle.prefsql_tables.specs.declared.table.AnswerRow.{AnswerRow}
use Rattle.prefsql_tables.specs.Names.{names_of, table_names}
use Rattle.prefsql_tables.specs.TableData.{TableData, NamedTable}

-- no two names are equal
abbrev pub AllDiffer : List (List ℕ) → Type 0
AllDiffer = AllPairs (λ (a b : List ℕ). a ≢ b)

-- 1 to 64 columns with different names
pub record IsSchema (columns : List Column) : Type 0 where
  pub not_empty : 1 ≤ length columns
  pub few : length columns ≤ 64
  pub names : All IsName (names_of columns)
  pub differ : AllDiffer (names_of columns)

-- a value that the column may hold: a number of at most 18 digits, a text, or NULL where the column
-- admits it
abbrev pub IsCell : Column → Value → Type 0
IsCell column (Num n) = (column.domain ≡ Integer) × IsShort n
IsCell column (Str text) = column.domain ≡ Chars
IsCell column Null = IsTrue column.nullable

-- one value for each column, which the column may hold
abbrev pub IsRow : List Column → List Value → Type 0
IsRow [] [] = Unit {0}
IsRow [] (value ∷ values) = ⊥
IsRow (column ∷ columns) [] = ⊥
IsRow (column ∷ columns) (value ∷ values) = IsCell column value × IsRow columns values

pub record IsTable (table : TableData) : Type 0 where
  pub schema : IsSchema table.columns
  pub rows : All (λ (row : AnswerRow). IsRow table.columns row.cells) table.rows
  pub few_rows : length table.rows ≤ 100000

-- valid tables with different names
pub record IsTableSet (tables : List NamedTable) : Type 0 where
  pub names : All IsName (table_names tables)
  pub differ : AllDiffer (table_names tables)
  pub all_valid : All (λ (named : NamedTable). IsTable named.table) tables
  pub few : length tables ≤ 2 ^ 32

-- the same names in the same order with equal columns
abbrev pub IsAlike : List NamedTable → List NamedTable → Type 0
IsAlike a b = map heading a ≡ map heading b
  where
    heading : NamedTable → List ℕ × List Column
    heading named = (named.name, named.table.columns)
