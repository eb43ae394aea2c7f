use Rattle.std.proofs.Common.{◌≡◌, ◌++◌}
use Rattle.std.specs.Vec.Iter.{into_iter_items}
use Rattle.sql_resolver.specs.Outcomes.{all_of, formed, paired}
use Rattle.sql_resolver.proofs.fault.all_of.Given as goal

abbrev pub invariant-loop-part : goal.invariant-loop-part
invariant-loop-part g l =
    formed (λ both. both.0 ++ both.1) (paired l.found (all_of (into_iter_items l.part-iterator)))
    ≡ all_of l.fn.parts.items
