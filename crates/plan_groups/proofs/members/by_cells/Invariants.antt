use Rattle.std.proofs.Common.{◌≡◌, drop}
use Rattle.std.specs.Cmp.Lexicographic.{slice_cmp}
use Rattle.plan_groups.specs.Members.{cell_order}
use Rattle.plan_groups.proofs.members.by_cells.Given as goal

abbrev pub invariant-loop-place : goal.invariant-loop-place
invariant-loop-place l = slice_cmp cell_order l.a l.b ≡ slice_cmp cell_order (drop l.place l.a) (drop l.place l.b)
