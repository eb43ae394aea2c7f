use Rattle.std.proofs.Common.{All, false}
use Rattle.base_prefs.specs.RankedLaws.{IsRanked}
use Rattle.base_prefs.specs.declared.kind.Kind.TheVariants.{Lowest}
use Rattle.prefsql_rows.proofs.window.numbers.Given as goal

abbrev pub invariant-loop-n : goal.invariant-loop-n
invariant-loop-n l = All (IsRanked Lowest false) l.values.items
