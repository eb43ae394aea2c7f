use Rattle.std.proofs.Common.{◌≡◌, length, All}
use Rattle.base_prefs.specs.Sets.{IsGivenSet}
use Rattle.prefsql_units.proofs.base_preferences.singles.Given as goal

abbrev pub invariant-loop-word : goal.invariant-loop-word
invariant-loop-word l = (length l.sets ≡ l.word-index) × All IsGivenSet l.sets
