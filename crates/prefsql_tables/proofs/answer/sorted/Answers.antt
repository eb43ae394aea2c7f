use Rattle.std.proofs.Common.{rules}
use Rattle.std.proofs.lemmas.Fn.{always_returns_same}
use Rattle.std.proofs.lemmas.List.Sorted.{ranks_by}
use Rattle.prefsql_tables.specs.declared.table.AnswerRow.{AnswerRow}
use Rattle.prefsql_tables.proofs.OrderLemmas.{row_order_total}
use Rattle.prefsql_tables.proofs.answer.sorted.Goals as goal

pub returns-clause-sorted : goal.returns-clause-sorted
returns-clause-sorted c =
    c.in_ok-sort_by.ensures.sorted _ (ranks_by (row_order_total c.args.keys.now) (λ (row : AnswerRow). row)) (always_returns_same _ _ _ (λ a r f k. (search rules, search rules)))
