use Rattle.std.proofs.Common.{take}
use Rattle.sql_resolver.specs.Index.{IsIndexOf}
use Rattle.sql_resolver.specs.Scope.{scope_names}
use Rattle.sql_resolver.proofs.index.columns_by_name.Given as goal

abbrev pub invariant-loop-at : goal.invariant-loop-at
invariant-loop-at l = IsIndexOf (scope_names (take l.at l.items)) l.columns
