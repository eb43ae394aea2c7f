use Rattle.std.proofs.Common.{◌≡◌, take, map}
use Rattle.base_prefs.specs.Table.{placed}
use Rattle.base_prefs.proofs.placed.placed_edges.Given as goal

abbrev pub invariant-loop-edge : goal.invariant-loop-edge
invariant-loop-edge l = l.all ≡ map (placed l.values) (take l.edge-index l.edges)
