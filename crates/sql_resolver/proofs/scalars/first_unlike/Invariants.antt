use Rattle.std.proofs.Common.{◌≡◌, drop}
use Rattle.sql_resolver.specs.Found.{first_unlike, results}
use Rattle.sql_resolver.specs.Outcomes.{earlier_if}
use Rattle.sql_resolver.proofs.scalars.first_unlike.Given as goal

abbrev pub invariant-loop-when : goal.invariant-loop-when
invariant-loop-when l =
    earlier_if l.fault (first_unlike l.domain (results (drop l.when-index l.whens) l.last))
    ≡ first_unlike l.domain (results l.whens l.last)
