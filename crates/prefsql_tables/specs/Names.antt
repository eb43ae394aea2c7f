-- Columns and tables by their names.
use Rattle.std.specs.Prelude.{ℕ, ◌≡◌, ◌↔◌, List, Option, Some, IfSome, IsNone, Contains, map}
use Rattle.std.specs.Prelude.{position, slice_get}
use Rattle.std.specs.Str.{bytes_eq}
use Rattle.prefsql_tables.specs.declared.schema.Column.{Column}
use Rattle.prefsql_tables.specs.TableData.{NamedTable}

-- the place, from 0, at which the name stands among the names, and None exactly where it is not
-- among them
pub record IsPlaceAmong (names : List (List ℕ)) (name : List ℕ) (place : Option ℕ) : Type 0 where
  pub found : IfSome place (λ at. slice_get names at ≡ Some name)
  pub none : IsNone place ↔ ¬ Contains names name

abbrev pub names_of : List Column → List (List ℕ)
names_of = map (λ (column : Column). column.name)

-- the position of the column with this name
abbrev pub column_place : List Column → List ℕ → Option ℕ
column_place columns name = position (λ (column : Column). bytes_eq name column.name) columns

abbrev pub table_names : List NamedTable → List (List ℕ)
table_names = map (λ (named : NamedTable). named.name)

-- the position of the table with this name
abbrev pub table_place : List NamedTable → List ℕ → Option ℕ
table_place tables name = position (λ (named : NamedTable). bytes_eq name named.name) tables
