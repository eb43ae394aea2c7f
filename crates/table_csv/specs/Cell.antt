-- What a cell of a table file holds, and its faults. The rules are this project's own.
use Rattle.std.specs.Prelude.{ℕ, Bool, not, List, [], ◌++◌, if◌then◌else◌}
use Rattle.prefsql_values.specs.declared.value.Domain.{Domain}
use Rattle.prefsql_values.specs.declared.value.Domain.TheVariants.{Integer, Chars}
use Rattle.prefsql_values.specs.declared.value.Value.{Value}
use Rattle.prefsql_values.specs.declared.value.Value.TheVariants.{Num, Str, Null}
use Rattle.prefsql_tables.specs.declared.schema.Column.{Column}
use Rattle.table_csv.specs.Fault.{when}
use Rattle.table_csv.specs.Field.{is_text, is_empty, number_in, number_codes}

-- an empty field is NULL where the column admits it, else the empty text
abbrev pub empty_value : Column → Value
empty_value column = if column.nullable then Null else Str []

abbrev pub filled_value : Domain → List ℕ → Value
filled_value Integer field = Num (number_in field)
filled_value Chars field = Str field

-- what a field without a fault holds in a column
abbrev pub cell_value : Column → List ℕ → Value
cell_value column field = if is_empty field then empty_value column
    else filled_value column.domain field

abbrev pub empty_codes : Domain → Bool → List ℕ
empty_codes Integer nullable = when (not nullable) 506
empty_codes Chars nullable = []

abbrev pub filled_codes : Domain → List ℕ → List ℕ
filled_codes Integer field = number_codes field
filled_codes Chars field = []

-- the codes of the faults of a field in a column: first that it is no text, and then in ascending
-- order
abbrev pub cell_codes : Column → List ℕ → List ℕ
cell_codes column field =
    when (not (is_text field)) 507
    ++ (if is_empty field then empty_codes column.domain column.nullable
    else filled_codes column.domain field)
