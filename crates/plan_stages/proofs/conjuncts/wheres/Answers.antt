use Rattle.plan_algebra.specs.declared.plan.Conjunct.TheVariants as conjunct
use Rattle.plan_stages.proofs.Loops.{pushed_more}
use Rattle.plan_stages.proofs.conjuncts.wheres.Goals as goal

pub loop-position-preserved : goal.loop-position-preserved
loop-position-preserved c = pushed_more conjunct.Filter c.loop-position.position c.loop-position.found.items c.push.new.self.items c.loop-position.invariant c.in_ok-push.ensures.items
