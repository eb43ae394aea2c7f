use Rattle.std.proofs.Common.{◌≡◌, ◌+◌, ◌++◌, drop}
use Rattle.rewritten_query.specs.Leaves.{set_whens}
use Rattle.rewritten_query.specs.Names.{of_tables}
use Rattle.sql_rewriter.proofs.leaf_ranks.push_sets.Given as goal

abbrev pub invariant-loop-set : goal.invariant-loop-set
invariant-loop-set l = record {
  numbered : l.number_of_set ≡ l.first + l.set-index;
  pushed : l.whens ++ set_whens (of_tables l.place) l.number_of_set (drop l.set-index l.sets) ≡ l.initial.whens ++ set_whens (of_tables l.place) l.first l.sets;
}
