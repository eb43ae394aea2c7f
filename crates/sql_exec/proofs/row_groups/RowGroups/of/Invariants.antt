use Rattle.std.proofs.Common.{◌≡◌}
use Rattle.prefsql_values.specs.declared.value.Value.{Value}
use Rattle.sql_exec.specs.RowKeys.{same_rows, group_at}
use Rattle.sql_exec.proofs.row_groups.RowGroups.of.Given as goal

abbrev pub invariant-loop-row : goal.invariant-loop-row
invariant-loop-row l = (v : Value) → group_at l.groups v ≡ same_rows l.yielded l.column v
