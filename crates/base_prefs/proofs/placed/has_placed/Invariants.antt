use Rattle.std.proofs.Common.{◌≡◌, false, take}
use Rattle.base_prefs.specs.Table.{has_placed}
use Rattle.base_prefs.proofs.placed.has_placed.Given as goal

abbrev pub invariant-loop-edge : goal.invariant-loop-edge
invariant-loop-edge l = has_placed (take l.edge-index l.places) l.upper l.lower ≡ false
