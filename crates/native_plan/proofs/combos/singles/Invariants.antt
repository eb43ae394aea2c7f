use Rattle.std.proofs.Common.{◌≡◌, filter}
use Rattle.plan_algebra.specs.Meaning.{single_rows}
use Rattle.native_plan.specs.Asking.{holds_all}
use Rattle.native_plan.proofs.combos.singles.Given as goal

abbrev pub invariant-loop-row : goal.invariant-loop-row
invariant-loop-row l = l.combos.items ≡ filter (holds_all l.asked l.conjuncts l.first) (single_rows l.row)
