use Rattle.std.specs.Vec.Iter.{into_iter_items}
use Rattle.prefsql_tables.proofs.PassLemmas.{IsPass}
use Rattle.prefsql_tables.proofs.answer.without_repeats.Given as goal

abbrev pub invariant-loop-row : goal.invariant-loop-row
invariant-loop-row l = IsPass l.fn.rows.items l.yielded (into_iter_items l.row-iterator) l.once
