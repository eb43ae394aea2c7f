use Rattle.std.proofs.Common.{◌≡◌, ◌++◌, map}
use Rattle.std.specs.Vec.Iter.{into_iter_items}
use Rattle.sql_resolver.specs.Found.{term_tree}
use Rattle.sql_resolver.proofs.scalars.term_trees.Given as goal

abbrev pub invariant-loop-term : goal.invariant-loop-term
invariant-loop-term l =
    l.trees.items ++ map term_tree (into_iter_items l.term-iterator) ≡ map term_tree l.fn.terms.items
