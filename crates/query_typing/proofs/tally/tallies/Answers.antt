use Rattle.std.proofs.Common.{sym, subst, take}
use Rattle.std.proofs.lemmas.List.{take_more}
use Rattle.query_typing.specs.Tallies.{AreTallied}
use Rattle.query_typing.proofs.tally.tallies.Goals as goal

pub loop-leaf-preserved : goal.loop-leaf-preserved
loop-leaf-preserved c =
    let leaves = c.args.leaves.now in
    let i = c.loop-leaf.leaf-index in
    subst (λ ls. AreTallied ls c.add_leaf.new.tallies) (sym (take_more leaves i _ c.loop-leaf-test.true)) (c.in_ok-add_leaf.ensures (take i leaves) c.loop-leaf.invariant)
