use Rattle.std.proofs.Common.{◌≡◌, drop}
use Rattle.std.specs.List.{list_all}
use Rattle.plan_stages.specs.Sinking.{is_of_groups}
use Rattle.plan_stages.proofs.sinking.+groups.Given as goal

abbrev pub invariant-are_of_groups-loop-part : goal.invariant-are_of_groups-loop-part
invariant-are_of_groups-loop-part l = list_all (is_of_groups l.groups) l.parts ≡ list_all (is_of_groups l.groups) (drop l.part-index l.parts)
