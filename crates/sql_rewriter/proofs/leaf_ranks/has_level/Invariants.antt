use Rattle.std.proofs.Common.{◌≡◌, map, filter, nat_eq, take}
use Rattle.base_prefs.specs.Graph.{graph_level}
use Rattle.base_prefs.specs.Kind.{edges_of}
use Rattle.rewritten_query.specs.Leaves.{literal}
use Rattle.sql_rewriter.proofs.leaf_ranks.has_level.Given as goal

abbrev pub invariant-loop-value : goal.invariant-loop-value
invariant-loop-value l = l.list ≡ map literal (filter (λ v. nat_eq (graph_level (edges_of l.base) v) l.n) (take l.value-index l.values))
