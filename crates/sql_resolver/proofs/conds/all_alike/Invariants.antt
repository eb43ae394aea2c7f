use Rattle.std.proofs.Common.{◌≡◌, ◌++◌, map}
use Rattle.std.specs.Vec.Iter.{into_iter_items}
use Rattle.sql_resolver.specs.Found.{alike}
use Rattle.sql_resolver.proofs.conds.all_alike.Given as goal

abbrev pub invariant-loop-b : goal.invariant-loop-b
invariant-loop-b l =
    l.found.items ++ map (alike l.domain) (into_iter_items l.b-iterator)
    ≡ map (alike l.domain) l.fn.list.items
