use Rattle.std.proofs.Common.{◌≡◌, ◌∷◌, map, take, get_or}
use Rattle.prefsql_values.specs.declared.value.Value.TheVariants.{Null}
use Rattle.base_prefs.specs.Graph.{is_above}
use Rattle.base_prefs.specs.Kind.{edges_of}
use Rattle.rewritten_query.specs.Leaves.{number}
use Rattle.rewritten_query.specs.Rankings.{codes_where}
use Rattle.sql_rewriter.proofs.rankings.codes_below.Given as goal

abbrev pub invariant-loop-lower : goal.invariant-loop-lower
invariant-loop-lower l = l.codes ≡ number 0 ∷ map number (codes_where (is_above (edges_of l.base) (get_or l.values l.upper Null)) 1 (take l.lower l.values))
