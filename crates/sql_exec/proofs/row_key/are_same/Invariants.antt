use Rattle.std.proofs.Common.{◌≡◌, drop}
use Rattle.std.specs.Cmp.Lexicographic.{pointwise}
use Rattle.prefsql_values.specs.Value.{value_eq}
use Rattle.sql_exec.proofs.row_key.are_same.Given as goal

abbrev pub invariant-loop-place : goal.invariant-loop-place
invariant-loop-place l =
    pointwise value_eq l.values l.others ≡ pointwise value_eq (drop l.place l.values) (drop l.place l.others)
