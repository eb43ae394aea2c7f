-- The rows that a part of a query sees.
use Rattle.std.specs.Prelude.{Option, List, ◌∷◌, map}
use Rattle.std.specs.Option.{option_map}
use Rattle.prefsql_values.specs.declared.value.Cell.{Cell}
use Rattle.prefsql_values.specs.declared.value.Value.{Value}
use Rattle.prefsql_values.specs.Value.{value_of}
use Rattle.std.specs.Borrow.{Bor}
use Rattle.prefsql_tables.specs.declared.table.AnswerRow.{AnswerRow}
use Rattle.sql_tree.specs.Meaning as meaning
use Rattle.sql_exec.specs.declared.scopes.Scope.{Scope}

abbrev pub rows_seen : List (Bor AnswerRow) → List AnswerRow
rows_seen = map (λ (row : Bor AnswerRow). row.now)

-- a scope that is kept while queries inside it are run
abbrev pub scope_seen : Scope → meaning.Scope
scope_seen scope = rows_seen scope.rows.items

abbrev pub outer_seen : List Scope → meaning.Scopes
outer_seen = map scope_seen

-- the rows of the query itself, and of those round it, the innermost first
abbrev pub scopes_seen : List (Bor AnswerRow) → List Scope → meaning.Scopes
scopes_seen own outer = rows_seen own ∷ outer_seen outer

-- the value of a cell that was found
abbrev pub found_value : Option Cell → Option Value
found_value = option_map value_of
