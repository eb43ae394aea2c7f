use Rattle.std.proofs.Common.{◌≡◌, ◌-◌, []}
use Rattle.plan_stages.specs.Stages.{joined}
use Rattle.plan_algebra.specs.declared.plan.Plan as plan
use Rattle.plan_stages.proofs.nodes.joined_scans.Given as goal

abbrev pub invariant-loop-table : goal.invariant-loop-table
invariant-loop-table l = l.plan ≡ joined plan.Scan (λ table. []) (l.table - 1)
