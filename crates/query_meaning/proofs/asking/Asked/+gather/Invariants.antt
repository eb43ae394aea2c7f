use Rattle.std.proofs.Common.{◌≡◌, ◌++◌, ◌∷◌, [], filter, length}
use Rattle.std.specs.List.{flat_map, range_with_len}
use Rattle.prefsql_tables.specs.Combos.{combos_of}
use Rattle.query_meaning.specs.Asking.{is_candidate}
use Rattle.query_meaning.specs.Choices.{begun}
use Rattle.query_meaning.proofs.asking.Asked.+gather.Given as goal

abbrev pub decreases-gather : goal.decreases-gather
decreases-gather l = length l.limits.now

abbrev pub invariant-loop-row : goal.invariant-loop-row
invariant-loop-row l = record {
  same : l.rows.items ≡ l.fn.rows.items;
  gathered : l.found.items ≡ l.fn.found.items ++ filter (is_candidate l.self) (flat_map (λ row. begun (l.fn.rows.items ++ row ∷ []) (combos_of l.more)) (range_with_len 0 l.row));
}
