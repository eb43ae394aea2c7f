use Rattle.std.proofs.Common.{◌≡◌, drop}
use Rattle.base_prefs.specs.Table.{overlaps}
use Rattle.base_prefs.proofs.sets.overlaps.Given as goal

abbrev pub invariant-loop-at : goal.invariant-loop-at
invariant-loop-at l = overlaps (drop l.at l.sets) l.after ≡ overlaps l.sets l.after
