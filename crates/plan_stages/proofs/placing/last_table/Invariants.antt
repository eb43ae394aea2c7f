use Rattle.std.proofs.Common.{◌≡◌, drop, max}
use Rattle.plan_stages.specs.Placing.{last_table}
use Rattle.plan_stages.proofs.placing.last_table.Given as goal

abbrev pub invariant-loop-place : goal.invariant-loop-place
invariant-loop-place l = max l.last (last_table (drop l.place-index l.places)) ≡ last_table l.places
