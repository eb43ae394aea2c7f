use Rattle.std.specs.Vec.Iter.{into_iter_items}
use Rattle.prefsql_tables.proofs.PutLemmas.{IsPutting}
use Rattle.prefsql_tables.proofs.table.put_row.Given as goal

abbrev pub invariant-loop-place : goal.invariant-loop-place
invariant-loop-place l = IsPutting l.fn.count l.fn.row.items l.fn.columns.items l.columns.items l.place-iterator.count (into_iter_items l.place-iterator.iter)
