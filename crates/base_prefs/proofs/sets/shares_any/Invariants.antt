use Rattle.std.proofs.Common.{◌≡◌, false, take}
use Rattle.base_prefs.specs.Table.{shares_any}
use Rattle.base_prefs.proofs.sets.shares_any.Given as goal

abbrev pub invariant-loop-other : goal.invariant-loop-other
invariant-loop-other l = shares_any l.set (take l.other-index l.others) ≡ false
