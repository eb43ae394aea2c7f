use Rattle.std.proofs.Common.{sym, ◌∙◌, arith}
use Rattle.prefsql_values.specs.Value.{nulls_last}
use Rattle.prefsql_tables.proofs.OrderLemmas.{ends_first}
use Rattle.prefsql_tables.proofs.order.by_columns.Goals as goal

pub returns-then-a-b : goal.returns-then-a-b
returns-then-a-b c = sym (c.loop-place.invariant ∙ ends_first nulls_last c.args.a.now c.args.b.now c.loop-place.place (omega arith) (omega arith))
