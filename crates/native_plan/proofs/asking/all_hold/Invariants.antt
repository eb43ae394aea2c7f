use Rattle.std.proofs.Common.{◌≡◌, drop}
use Rattle.native_plan.specs.Asking.{holds_all}
use Rattle.native_plan.proofs.asking.all_hold.Given as goal

abbrev pub invariant-loop-conjunct : goal.invariant-loop-conjunct
invariant-loop-conjunct l = holds_all l.asked l.conjuncts l.first l.combo ≡ holds_all l.asked (drop l.conjunct-index l.conjuncts) l.first l.combo
