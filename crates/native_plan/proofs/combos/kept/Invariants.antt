use Rattle.std.specs.Vec.Iter.{into_iter_items}
use Rattle.native_plan.specs.Asking.{CanAskAll, holds_all}
use Rattle.query_meaning.proofs.KeptLemmas.{IsKeeping}
use Rattle.native_plan.proofs.combos.kept.Given as goal

abbrev pub invariant-loop-combo : goal.invariant-loop-combo
invariant-loop-combo l = IsKeeping (CanAskAll l.asked l.conjuncts l.first) (holds_all l.asked l.conjuncts l.first) l.fn.combos.items l.kept.items (into_iter_items l.combo-iterator)
