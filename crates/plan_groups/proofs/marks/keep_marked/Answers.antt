use Rattle.std.proofs.Common.{◌≡◌, [], ◌++◌, ◌∙◌, ⊎_elim, inl, inr, sym, ap, append-nil}
use Rattle.std.specs.Vec.Iter.{into_iter_items}
use Rattle.std.specs.Slice.Iter.{iter_rest}
use Rattle.window_eval.specs.Marks.{marked}
use Rattle.window_eval.proofs.Marking.{marked_ended}
use Rattle.plan_groups.proofs.marks.keep_marked.Goals as goal

pub returns : goal.returns
returns c =
    let items = c.loop-combo.combo-iterator.a in
    let marks = c.loop-combo.combo-iterator.b in
    let ended : marked (into_iter_items items) (iter_rest marks) ≡ [] =
    marked_ended (into_iter_items items) (iter_rest marks)
    (⊎_elim (λ u. inl (sym items.rest.ok.0 ∙ u.1.0)) (λ u. inr u.1.0) c.in-None.ensures.steps)
    in
    sym (append-nil c.loop-combo.kept) ∙ sym (ap (λ ys. c.loop-combo.kept ++ ys) ended) ∙ c.loop-combo.invariant
