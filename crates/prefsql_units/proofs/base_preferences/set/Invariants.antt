use Rattle.std.proofs.Common.{◌≡◌, length, All}
use Rattle.prefsql_values.specs.Limits.{IsLiteralValue}
use Rattle.prefsql_units.proofs.base_preferences.set.Given as goal

abbrev pub invariant-loop-word : goal.invariant-loop-word
invariant-loop-word l = (length l.values ≡ l.word-index) × All IsLiteralValue l.values
