use Rattle.std.proofs.Common.{◌≡◌, ◌+◌, length, drop}
use Rattle.base_prefs.specs.Sets.{written}
use Rattle.base_prefs.proofs.sets.room_after.Given as goal

abbrev pub invariant-loop-set : goal.invariant-loop-set
invariant-loop-set l = l.left + length (written l.sets) ≡ l.room + length (written (drop l.set-index l.sets))
