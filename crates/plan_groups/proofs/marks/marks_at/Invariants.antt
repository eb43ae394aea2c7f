use Rattle.std.proofs.Common.{take}
use Rattle.plan_groups.proofs.Marked.{AreMarks}
use Rattle.plan_groups.proofs.marks.marks_at.Given as goal

abbrev pub invariant-loop-place : goal.invariant-loop-place
invariant-loop-place l = AreMarks l.count (take l.place-index l.places) l.marks.items
