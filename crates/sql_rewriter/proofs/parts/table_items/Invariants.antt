use Rattle.std.proofs.Common.{◌≡◌, ◌+◌, ◌++◌, drop}
use Rattle.rewritten_query.specs.Rewriting.{table_items}
use Rattle.sql_rewriter.proofs.parts.table_items.Given as goal

abbrev pub invariant-loop-table : goal.invariant-loop-table
invariant-loop-table l = record {
  numbered : l.n ≡ 1 + l.table-index;
  pushed : l.items ++ table_items l.n (drop l.table-index l.from) ≡ table_items 1 l.from;
}
