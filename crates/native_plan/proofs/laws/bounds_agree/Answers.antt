use Rattle.native_plan.proofs.SomeCount.{floor_bound}
use Rattle.native_plan.proofs.laws.bounds_agree.Goals as goal

pub returns : goal.returns
returns c = λ tables block plan places fits whole. floor_bound tables block places fits plan whole
