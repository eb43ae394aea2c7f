use Rattle.std.proofs.Common.{◌≡◌, length, All}
use Rattle.base_prefs.specs.Graph.{ends}
use Rattle.prefsql_values.specs.Limits.{IsLiteralValue}
use Rattle.prefsql_units.proofs.base_preferences.edges.Given as goal

abbrev pub invariant-loop-upper : goal.invariant-loop-upper
invariant-loop-upper l = (length l.edges ≡ l.upper-index) × All IsLiteralValue (ends l.edges)
