use Rattle.std.proofs.Common.{take}
use Rattle.sql_resolver.specs.Index.{AreCalled}
use Rattle.sql_resolver.specs.Scope.{scope_names}
use Rattle.sql_resolver.proofs.index.names_called.Given as goal

abbrev pub invariant-loop-item : goal.invariant-loop-item
invariant-loop-item l = AreCalled (scope_names (take l.item-index l.items)) l.called
