use Rattle.std.proofs.Common.{length}
use Rattle.plan_stages.proofs.cascades.+add_separated.Given as goal

abbrev pub decreases-add_separated : goal.decreases-add_separated
decreases-add_separated l = length l.parts.now
