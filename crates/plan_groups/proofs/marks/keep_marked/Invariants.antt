use Rattle.std.proofs.Common.{◌≡◌, ◌++◌}
use Rattle.std.specs.Vec.Iter.{into_iter_items}
use Rattle.std.specs.Slice.Iter.{iter_rest}
use Rattle.window_eval.specs.Marks.{marked}
use Rattle.plan_groups.proofs.marks.keep_marked.Given as goal

abbrev pub invariant-loop-combo : goal.invariant-loop-combo
invariant-loop-combo l =
    l.kept ++ marked (into_iter_items l.combo-iterator.a) (iter_rest l.combo-iterator.b) ≡ marked l.fn.combos.items l.fn.marks
