use Rattle.std.proofs.Common.{◌≡◌, ℕ, ◌<◌, true, get_or}
use Rattle.std.specs.Ordering.{is_eq}
use Rattle.plan_groups.specs.Members.{by_group}
use Rattle.plan_groups.specs.declared.members.Member.{Member}
use Rattle.plan_groups.proofs.members.run_length.Given as goal

abbrev pub invariant-loop-place : goal.invariant-loop-place
invariant-loop-place l = (k : ℕ) (d : Member) → k < l.place → is_eq (by_group (get_or l.members 0 d) (get_or l.members k d)) ≡ true
