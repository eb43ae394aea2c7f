-- The names of the table and of its columns are valid.
use Rattle.std.proofs.Common.{zero, suc, All, arith, codes, lit≤, rules}
use Rattle.std.specs.List.{IsDistinct}
use Rattle.std.specs.Str.{chars}
use Rattle.std.proofs.lemmas.Map.Made.{AllPairs-from_IsDistinct}
use Rattle.std.proofs.lemmas.Slice.Eq.{bytes_eq-Decides}
use Rattle.prefsql_values.specs.Limits.{IsName}
use Rattle.prefsql_tables.specs.Names.{names_of}
use Rattle.prefsql_tables.specs.Valid.{IsSchema, AllDiffer}
use Rattle.prefsql_bench.specs.BenchTable.{bench_columns}

pub bench_is_name : IsName (codes "BENCH")
unfolding chars
bench_is_name = record { not_empty = lit≤ tt; short = lit≤ tt }

names : All IsName (names_of bench_columns)
unfolding chars
names zero d small = record { not_empty = lit≤ tt; short = lit≤ tt }
names (suc zero) d small = record { not_empty = lit≤ tt; short = lit≤ tt }
names (suc (suc zero)) d small = record { not_empty = lit≤ tt; short = lit≤ tt }
names (suc (suc (suc zero))) d small = record { not_empty = lit≤ tt; short = lit≤ tt }
names (suc (suc (suc (suc zero)))) d small = record { not_empty = lit≤ tt; short = lit≤ tt }
names (suc (suc (suc (suc (suc k))))) d small = absurd (omega arith)

differ : AllDiffer (names_of bench_columns)
unfolding IsDistinct
differ = AllPairs-from_IsDistinct bytes_eq-Decides (names_of bench_columns) (search rules)

pub bench_is_schema : IsSchema bench_columns
bench_is_schema = record { not_empty = lit≤ tt; few = lit≤ tt; names = names; differ = differ }
