use Rattle.std.proofs.Common.{◌≡◌, false, take}
use Rattle.std.specs.List.{list_any}
use Rattle.base_prefs.specs.Values.{is_in}
use Rattle.base_prefs.proofs.sets.share.Given as goal

abbrev pub invariant-loop-value : goal.invariant-loop-value
invariant-loop-value l = list_any (is_in l.other.values) (take l.value-index l.set.values) ≡ false
