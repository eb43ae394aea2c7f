use Rattle.std.proofs.Common.{◌≡◌, ◌+◌, ◌++◌, drop}
use Rattle.rewritten_query.specs.Leaves.{code_whens}
use Rattle.rewritten_query.specs.Names.{of_tables}
use Rattle.sql_rewriter.proofs.leaf_ranks.code_scalar.Given as goal

abbrev pub invariant-loop-value : goal.invariant-loop-value
invariant-loop-value l = record {
  numbered : l.code ≡ 1 + l.value-index;
  pushed : l.whens ++ code_whens (of_tables l.place) l.code (drop l.value-index l.values) ≡ code_whens (of_tables l.place) 1 l.values;
}
