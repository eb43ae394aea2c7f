use Rattle.std.proofs.Common.{◌≡◌, drop}
use Rattle.std.specs.Cmp.Lexicographic.{slice_cmp}
use Rattle.prefsql_values.specs.Value.{nulls_last}
use Rattle.prefsql_tables.proofs.order.by_columns.Given as goal

abbrev pub invariant-loop-place : goal.invariant-loop-place
invariant-loop-place l = slice_cmp nulls_last l.a l.b ≡ slice_cmp nulls_last (drop l.place l.a) (drop l.place l.b)
