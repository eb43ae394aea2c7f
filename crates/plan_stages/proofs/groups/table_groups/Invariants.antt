use Rattle.std.proofs.Common.{◌≡◌, filter, take}
use Rattle.plan_stages.specs.Sinking.{is_place_in}
use Rattle.plan_stages.proofs.groups.table_groups.Given as goal

abbrev pub invariant-loop-place : goal.invariant-loop-place
invariant-loop-place l = l.groups ≡ filter (is_place_in l.needed.items) (take l.place-index l.place-items)
