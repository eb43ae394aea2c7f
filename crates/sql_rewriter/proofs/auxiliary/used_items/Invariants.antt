use Rattle.std.proofs.Common.{◌≡◌, ◌+◌, ◌++◌, drop}
use Rattle.rewritten_query.specs.Columns.{used_items}
use Rattle.sql_rewriter.proofs.auxiliary.used_items.Given as goal

abbrev pub invariant-loop-place : goal.invariant-loop-place
invariant-loop-place l = record {
  numbered : l.n ≡ 1 + l.place-index;
  pushed : l.items ++ used_items l.n (drop l.place-index l.places) ≡ used_items 1 l.places;
}
