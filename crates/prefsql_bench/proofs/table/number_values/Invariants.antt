use Rattle.std.proofs.Common.{◌≡◌, map, take}
use Rattle.prefsql_bench.specs.BenchTable.{number_value}
use Rattle.prefsql_bench.proofs.table.number_values.Given as goal

abbrev pub invariant-loop-number : goal.invariant-loop-number
invariant-loop-number l = l.values ≡ map number_value (take l.number-index l.numbers)
