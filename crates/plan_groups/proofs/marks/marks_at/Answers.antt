use Rattle.std.proofs.Common.{ℕ, List, subst, arith}
use Rattle.std.proofs.lemmas.List.{take_all}
use Rattle.plan_groups.proofs.Marked.{AreMarks, marks_all}
use Rattle.plan_groups.proofs.marks.marks_at.Goals as goal

pub returns : goal.returns
returns c =
    let places = c.args.places.now in
    let i = c.loop-place.place-index in
    let count = c.args.count in
    marks_all count places c.loop-place.marks.items
    (subst (λ (ps : List ℕ). AreMarks count ps c.loop-place.marks.items) (take_all i places (omega arith)) c.loop-place.invariant)
