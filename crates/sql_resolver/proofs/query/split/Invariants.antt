use Rattle.std.proofs.Common.{◌≡◌, ◌++◌, map}
use Rattle.std.specs.Vec.Iter.{into_iter_items}
use Rattle.sql_tree.specs.declared.tree.SqlFrom.{SqlFrom}
use Rattle.sql_resolver.specs.Scope.{ScopeItem}
use Rattle.sql_resolver.proofs.query.split.Given as goal

abbrev pub invariant-loop-tree : goal.invariant-loop-tree
invariant-loop-tree l = record {
  trees : l.trees ++ map (λ (p : SqlFrom × ScopeItem). p.0) (into_iter_items l.tree-iterator)
      ≡ map (λ (p : SqlFrom × ScopeItem). p.0) l.fn.pairs;
  items : l.items ++ map (λ (p : SqlFrom × ScopeItem). p.1) (into_iter_items l.tree-iterator)
      ≡ map (λ (p : SqlFrom × ScopeItem). p.1) l.fn.pairs;
}
