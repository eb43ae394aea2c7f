use Rattle.prefsql_bench.proofs.NameLemmas.{bench_is_name}
use Rattle.prefsql_bench.proofs.table.bench_tables.Goals as goal

pub add_table-requires-clause-named : goal.add_table-requires-clause-named
add_table-requires-clause-named c = rw c.in_ok-of.ensures bench_is_name
