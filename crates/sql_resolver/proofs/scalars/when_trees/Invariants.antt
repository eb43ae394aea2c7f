use Rattle.std.proofs.Common.{◌≡◌, ◌++◌, map}
use Rattle.std.specs.Vec.Iter.{into_iter_items}
use Rattle.sql_resolver.specs.Found.{when_tree}
use Rattle.sql_resolver.proofs.scalars.when_trees.Given as goal

abbrev pub invariant-loop-when : goal.invariant-loop-when
invariant-loop-when l =
    l.trees.items ++ map when_tree (into_iter_items l.when-iterator) ≡ map when_tree l.fn.whens.items
