use Rattle.prefsql_bench.proofs.DrawLemmas.{state_after_row}
use Rattle.prefsql_bench.proofs.table.numbers.Goals as goal

pub returns-clause-after : goal.returns-clause-after
returns-clause-after c = let row = state_after_row c.args.place in cc
