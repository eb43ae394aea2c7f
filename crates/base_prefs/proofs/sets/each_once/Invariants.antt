use Rattle.std.proofs.Common.{◌≡◌, ◌++◌, map}
use Rattle.std.specs.Vec.Iter.{into_iter_items}
use Rattle.base_prefs.specs.Sets.{once}
use Rattle.base_prefs.proofs.sets.each_once.Given as goal

abbrev pub invariant-loop-set : goal.invariant-loop-set
invariant-loop-set l = l.kept ++ map once (into_iter_items l.set-iterator) ≡ map once l.fn.sets
