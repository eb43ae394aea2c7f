-- How rows are found: what a row feeds the hash, which is each value in turn, and the rows that have a
-- value in a column (ISO/IEC 9075:1992, comparison predicate: NULL is equal to nothing).
use Rattle.std.specs.Prelude.{Bool, not, ◌&&◌, ◌||◌, if◌then◌else◌, List, [], ℕ, Option, None, Some}
use Rattle.std.specs.Hash.{i128, str, u8}
use Rattle.std.specs.List.{filter, flat_map}
use Rattle.prefsql_tables.specs.Table.{cell_in}
use Rattle.indexmap.specs.IndexMap.{IndexMap, get}
use Rattle.prefsql_values.specs.Truth.{is_true}
use Rattle.prefsql_values.specs.Value.{comparison, is_null, value_eq}
use Rattle.prefsql_values.specs.declared.value.CompareOp.TheVariants.{Eq}
use Rattle.prefsql_values.specs.declared.value.Value.{Value}
use Rattle.prefsql_values.specs.declared.value.Value.TheVariants.{Num, Str, Null}
use Rattle.prefsql_tables.specs.declared.table.AnswerRow.{AnswerRow}
use Rattle.sql_exec.specs.declared.row_groups.RowGroups.{RowGroups}

abbrev pub value_writes : Value → List (List ℕ)
value_writes (Num n) = i128 n
value_writes (Str text) = str text
value_writes Null = u8 0

abbrev pub row_writes : AnswerRow → List (List ℕ)
row_writes row = flat_map value_writes row.cells

-- whether it is True that the two are equal
abbrev pub are_equal : Value → Value → Bool
are_equal a b = is_true (comparison Eq a b)

abbrev pub listed : Option (List AnswerRow) → List AnswerRow
listed None = []
listed (Some rows) = rows

-- the rows that a map has for a value
abbrev pub group_at : {S : Type 0} → IndexMap Value (List AnswerRow) S → Value → List AnswerRow
group_at groups v = listed (get value_eq groups v)

abbrev pub rows_at : RowGroups → Value → List AnswerRow
rows_at groups v = group_at groups.groups v

-- the rows whose value in a column is this one
abbrev pub same_rows : List AnswerRow → ℕ → Value → List AnswerRow
same_rows rows column v = filter (λ row. value_eq (cell_in row column) v) rows

-- whether the value of a row is found by this one: NULL finds nothing, or NULL where that is asked for
abbrev pub may_find : Bool → Value → Bool
may_find nulls v = nulls || not (is_null v)

abbrev pub is_found : Bool → Value → Value → Bool
is_found nulls a v = may_find nulls v && value_eq a v

abbrev pub rows_found : RowGroups → Bool → Value → List AnswerRow
rows_found groups nulls v = if may_find nulls v then rows_at groups v else []
