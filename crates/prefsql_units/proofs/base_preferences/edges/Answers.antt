use Rattle.base_prefs.proofs.ShownLaws.{edge_pushed}
use Rattle.prefsql_units.proofs.base_preferences.edges.Goals as goal

pub loop-upper-preserved : goal.loop-upper-preserved
loop-upper-preserved c = edge_pushed c.loop-upper.edges _ _ c.loop-upper.upper-index c.loop-upper.invariant tt tt c.in_ok-push.ensures.ok
