use Rattle.std.proofs.Common.{◌≡◌, drop}
use Rattle.plan_stages.specs.Stages.{bests_above}
use Rattle.plan_stages.proofs.nodes.bests.Given as goal

abbrev pub invariant-loop-term : goal.invariant-loop-term
invariant-loop-term l = bests_above (drop l.term-index l.terms) l.groups l.plan ≡ bests_above l.terms l.groups l.fn.below
