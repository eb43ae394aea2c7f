use Rattle.std.proofs.Common.{◌≡◌}
use Rattle.std.specs.Vec.Iter.{into_iter_items}
use Rattle.base_prefs.specs.Values.{firsts}
use Rattle.base_prefs.proofs.Firsts.{adding}
use Rattle.base_prefs.proofs.sets.firsts.Given as goal

abbrev pub invariant-loop-value : goal.invariant-loop-value
invariant-loop-value l = adding l.kept (into_iter_items l.value-iterator) ≡ firsts l.fn.values
