use Rattle.std.proofs.Common.{◌≡◌, ◌++◌, drop, filter}
use Rattle.std.specs.List.{list_any}
use Rattle.rewritten_query.specs.Columns.{all_places, place_eq}
use Rattle.sql_rewriter.proofs.used.used_among.Given as goal

abbrev pub invariant-loop-table : goal.invariant-loop-table
invariant-loop-table l = record {
  numbered : l.number ≡ l.table-index;
  pushed : l.used ++ filter (λ place. list_any (place_eq place) l.mentioned) (all_places l.number (drop l.table-index l.from)) ≡ filter (λ place. list_any (place_eq place) l.mentioned) (all_places 0 l.from);
}
