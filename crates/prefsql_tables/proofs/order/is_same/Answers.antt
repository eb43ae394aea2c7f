use Rattle.prefsql_tables.proofs.OrderLemmas.{columns_order_decides}
use Rattle.prefsql_tables.proofs.order.is_same.Goals as goal

pub returns : goal.returns
returns c = rw (c.is_eq.ensures, c.by_columns.ensures, c.as_slice.ensures, c.as_slice-2.ensures) (columns_order_decides c.args.a.now c.args.b.now)
