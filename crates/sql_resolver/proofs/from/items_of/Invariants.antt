use Rattle.std.proofs.Common.{◌≡◌, ◌++◌, map}
use Rattle.std.specs.Vec.Iter.{into_iter_items}
use Rattle.sql_resolver.specs.declared.found.FoundFrom.{FoundFrom}
use Rattle.sql_resolver.proofs.from.items_of.Given as goal

abbrev pub invariant-loop-from : goal.invariant-loop-from
invariant-loop-from l =
    l.items.items ++ map (λ (from : FoundFrom). from.item) (into_iter_items l.from-iterator)
    ≡ map (λ (from : FoundFrom). from.item) l.fn.froms.items
