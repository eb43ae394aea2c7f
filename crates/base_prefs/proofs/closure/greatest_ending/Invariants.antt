use Rattle.std.proofs.Common.{◌≡◌, take, map}
use Rattle.base_prefs.specs.Graph.{greatest}
use Rattle.base_prefs.specs.Table.{placed_ending}
use Rattle.base_prefs.proofs.closure.greatest_ending.Given as goal

abbrev pub invariant-loop-edge : goal.invariant-loop-edge
invariant-loop-edge l = l.most ≡ greatest (map (placed_ending l.heights l.at) (take l.edge-index l.places))
