use Rattle.sql_rewriter.proofs.Views.{shown_Explicit, shown_Layered, shown_Neg, shown_Pos, shown_PosNeg, shown_PosPos}
use Rattle.sql_rewriter.proofs.leaf_ranks.rank_scalar.Goals as goal

pub by_set-requires : goal.by_set-requires
by_set-requires c = (shown_Pos c.args.base.now c.in-Pos.values c.in-Pos.ensures.shown c.keeps_limits.ensures).0

pub by_set-requires-in-Neg : goal.by_set-requires-in-Neg
by_set-requires-in-Neg c = (shown_Neg c.args.base.now c.in-Neg.values c.in-Neg.ensures.shown c.keeps_limits.ensures).0

pub by_two_sets-requires-clause-first_literal : goal.by_two_sets-requires-clause-first_literal
by_two_sets-requires-clause-first_literal c = (shown_PosPos c.args.base.now c.in-PosPos.first c.in-PosPos.second c.in-PosPos.ensures.shown c.keeps_limits.ensures).0

pub by_two_sets-requires-clause-second_literal : goal.by_two_sets-requires-clause-second_literal
by_two_sets-requires-clause-second_literal c = (shown_PosPos c.args.base.now c.in-PosPos.first c.in-PosPos.second c.in-PosPos.ensures.shown c.keeps_limits.ensures).1

pub by_two_sets-requires-in-PosNeg-clause-first_literal : goal.by_two_sets-requires-in-PosNeg-clause-first_literal
by_two_sets-requires-in-PosNeg-clause-first_literal c = (shown_PosNeg c.args.base.now c.in-PosNeg.good c.in-PosNeg.bad c.in-PosNeg.ensures.shown c.keeps_limits.ensures).0

pub by_two_sets-requires-in-PosNeg-clause-second_literal : goal.by_two_sets-requires-in-PosNeg-clause-second_literal
by_two_sets-requires-in-PosNeg-clause-second_literal c = (shown_PosNeg c.args.base.now c.in-PosNeg.good c.in-PosNeg.bad c.in-PosNeg.ensures.shown c.keeps_limits.ensures).1

pub by_layers-requires-clause-few : goal.by_layers-requires-clause-few
by_layers-requires-clause-few c = (shown_Layered c.args.base.now c.in-Layered.before c.in-Layered.after c.in-Layered.ensures.shown c.keeps_limits.ensures).0

pub by_layers-requires-clause-before_literal : goal.by_layers-requires-clause-before_literal
by_layers-requires-clause-before_literal c = (shown_Layered c.args.base.now c.in-Layered.before c.in-Layered.after c.in-Layered.ensures.shown c.keeps_limits.ensures).1

pub by_layers-requires-clause-after_literal : goal.by_layers-requires-clause-after_literal
by_layers-requires-clause-after_literal c = (shown_Layered c.args.base.now c.in-Layered.before c.in-Layered.after c.in-Layered.ensures.shown c.keeps_limits.ensures).2

pub by_graph-requires-clause-some : goal.by_graph-requires-clause-some
by_graph-requires-clause-some c = (shown_Explicit c.args.base.now c.in-Explicit.values c.in-Explicit.ensures.shown c.keeps_limits.ensures).4

pub by_graph-requires-clause-few : goal.by_graph-requires-clause-few
by_graph-requires-clause-few c = (shown_Explicit c.args.base.now c.in-Explicit.values c.in-Explicit.ensures.shown c.keeps_limits.ensures).3
