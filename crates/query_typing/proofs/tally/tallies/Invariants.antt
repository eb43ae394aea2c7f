use Rattle.std.proofs.Common.{take}
use Rattle.query_typing.specs.Tallies.{AreTallied}
use Rattle.query_typing.proofs.tally.tallies.Given as goal

abbrev pub invariant-loop-leaf : goal.invariant-loop-leaf
invariant-loop-leaf l = AreTallied (take l.leaf-index l.leaves) l.tallies
