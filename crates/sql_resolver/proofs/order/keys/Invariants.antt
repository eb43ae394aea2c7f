use Rattle.std.proofs.Common.{◌≡◌, map, take}
use Rattle.sql_resolver.specs.Ordered.{found_key}
use Rattle.sql_resolver.specs.Statements.{key_reading}
use Rattle.sql_resolver.proofs.order.keys.Given as goal

abbrev pub invariant-loop-tree : goal.invariant-loop-tree
invariant-loop-tree l = l.keys.items ≡ map (λ tree. found_key (key_reading l.columns tree)) (take l.tree-index l.order)
