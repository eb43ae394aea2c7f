use Rattle.std.proofs.Common.{◌≡◌, drop}
use Rattle.prefsql_tables.specs.RowOrder.{keys_order}
use Rattle.prefsql_tables.proofs.order.by_keys.Given as goal

abbrev pub invariant-loop-key : goal.invariant-loop-key
invariant-loop-key l = keys_order l.keys l.a l.b ≡ keys_order (drop l.key-index l.keys) l.a l.b
