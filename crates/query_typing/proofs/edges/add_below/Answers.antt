use Rattle.prefsql_values.specs.Value.{value_of}
use Rattle.query_typing.proofs.PairSteps.{below_step}
use Rattle.query_typing.proofs.edges.add_below.Goals as goal

pub loop-lower-preserved : goal.loop-lower-preserved
loop-lower-preserved c =
    below_step c.args.lowers.now c.loop-lower.lower-index _ (value_of c.args.upper) c.args.above.now.items c.loop-lower.above.items c.put_pair.new.above.items
    c.loop-lower-test.true c.loop-lower.invariant c.in_ok-put_pair.ensures
