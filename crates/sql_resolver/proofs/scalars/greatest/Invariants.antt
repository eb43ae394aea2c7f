use Rattle.std.proofs.Common.{◌≡◌, drop, max}
use Rattle.sql_resolver.specs.Found.{greatest, results}
use Rattle.sql_resolver.specs.Owed.{both_bounds}
use Rattle.sql_resolver.proofs.scalars.greatest.Given as goal

abbrev pub invariant-loop-when : goal.invariant-loop-when
invariant-loop-when l =
    both_bounds max l.bound (greatest (results (drop l.when-index l.whens) l.last))
    ≡ greatest (results l.whens l.last)
