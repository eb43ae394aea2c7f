use Rattle.std.proofs.Common.{◌≡◌, map}
use Rattle.std.specs.List.{range_with_len}
use Rattle.base_prefs.specs.Kind.{edges_of}
use Rattle.rewritten_query.specs.Leaves.{level_when}
use Rattle.rewritten_query.specs.Names.{of_tables}
use Rattle.sql_rewriter.proofs.leaf_ranks.by_graph.Given as goal

abbrev pub invariant-loop-before : goal.invariant-loop-before
invariant-loop-before l = l.whens ≡ map (level_when (of_tables l.place) (edges_of l.base)) (range_with_len 1 l.before)
