use Rattle.std.proofs.Common.{◌<◌, length, All}
use Rattle.prefsql_values.specs.Limits.{IsLiteralValue}
use Rattle.prefsql_rows.proofs.refusals.ones.Given as goal

abbrev pub invariant-loop : goal.invariant-loop
invariant-loop l = (0 < length l.values) × All IsLiteralValue l.values
