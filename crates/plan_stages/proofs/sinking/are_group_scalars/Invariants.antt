use Rattle.std.proofs.Common.{◌≡◌, drop}
use Rattle.std.specs.List.{list_all}
use Rattle.plan_stages.specs.Sinking.{is_group_scalar}
use Rattle.plan_stages.proofs.sinking.are_group_scalars.Given as goal

abbrev pub invariant-loop-scalar : goal.invariant-loop-scalar
invariant-loop-scalar l = list_all (is_group_scalar l.groups) l.scalars ≡ list_all (is_group_scalar l.groups) (drop l.scalar-index l.scalars)
