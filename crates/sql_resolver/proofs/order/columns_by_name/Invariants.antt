use Rattle.std.proofs.Common.{take}
use Rattle.sql_resolver.specs.Ordered.{ShowsColumns}
use Rattle.sql_resolver.proofs.order.columns_by_name.Given as goal

abbrev pub invariant-loop-at : goal.invariant-loop-at
invariant-loop-at l = ShowsColumns (take l.at l.columns) l.named
