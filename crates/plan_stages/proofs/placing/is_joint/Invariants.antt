use Rattle.std.proofs.Common.{◌≡◌, drop, not, nat_eq}
use Rattle.std.specs.List.{list_any}
use Rattle.prefsql_tables.specs.declared.place.ColumnPlace.{ColumnPlace}
use Rattle.plan_stages.specs.Placing.{is_joint, last_table}
use Rattle.plan_stages.proofs.placing.is_joint.Given as goal

abbrev pub invariant-loop-place : goal.invariant-loop-place
invariant-loop-place l = is_joint l.places ≡ list_any (λ (place : ColumnPlace). not (nat_eq place.table (last_table l.places))) (drop l.place-index l.places)
