use Rattle.std.proofs.Common.{◌≡◌, map, take}
use Rattle.prefsql_values.specs.Value.{value_of}
use Rattle.plan_groups.specs.Groups.{seen_by}
use Rattle.plan_groups.proofs.members.group_key.Given as goal

abbrev pub invariant-loop-place : goal.invariant-loop-place
invariant-loop-place l = map value_of l.key.items ≡ map (seen_by l.bound l.combo) (take l.place-index l.place-items)
