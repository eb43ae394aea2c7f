use Rattle.std.proofs.Common.{◌&&◌, [], ◌∷◌}
use Rattle.sql_exec.specs.Ready.{all_keep}
use Rattle.sql_exec.proofs.Planning.{idle_keep}
use Rattle.sql_exec.proofs.steps.StepPlan.new.Goals as goal

pub returns-clause-keeps : goal.returns-clause-keeps
returns-clause-keeps c = λ scope scopes j. all_keep (c.new-before.ensures j) ([] ∷ scopes) && idle_keep c.loop-item.items.items [] scope scopes c.loop-item.invariant.idle j
