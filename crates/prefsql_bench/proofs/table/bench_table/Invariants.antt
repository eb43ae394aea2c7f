use Rattle.std.proofs.Common.{◌≡◌, ◌*◌}
use Rattle.prefsql_bench.specs.BenchTable.{bench_data}
use Rattle.prefsql_bench.specs.Draws.{state_after}
use Rattle.prefsql_bench.proofs.table.bench_table.Given as goal

-- the rows so far are those of a table with so many
abbrev pub invariant-loop-place : goal.invariant-loop-place
invariant-loop-place l = record {
  rows : l.table ≡ bench_data l.place;
  state : l.draws.state ≡ state_after (4 * l.place);
}
