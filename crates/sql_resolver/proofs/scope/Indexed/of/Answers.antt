use Rattle.std.proofs.Common.{subst}
use Rattle.sql_resolver.specs.Index.{AreCalled, IsIndexOf}
use Rattle.sql_resolver.specs.Scope.{scope_names}
use Rattle.sql_resolver.proofs.scope.Indexed.of.Goals as goal

pub invariant_of-result : goal.invariant_of-result
invariant_of-result c = record {
  by_item = subst (λ items. AreCalled (scope_names items) c.in_ok-called.called) c.as_slice-shown.ensures c.in_ok-called.ensures;
  by_column = subst (λ items. IsIndexOf (scope_names items) c.in_ok-columns.columns) c.as_slice-shown.ensures c.in_ok-columns.ensures;
}
