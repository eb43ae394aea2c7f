use Rattle.std.proofs.Common.{refl}
use Rattle.sql_exec.proofs.Planning.{made_all, made_equal}
use Rattle.sql_exec.proofs.steps.ItemPlan.step.Goals as goal

pub returns-in_ok-groups-in-Some : goal.returns-in_ok-groups-in-Some
returns-in_ok-groups-in-Some c =
    made_equal c.args.rows c.args.self _ c.in-Some.field-0.nulls c.in-Some.field-0.column c.in-Some.field-0.scalar c.in_ok-groups-in-Some.groups c.in-Some.is refl refl c.in_ok-groups-in-Some.ensures

pub returns-in-None : goal.returns-in-None
returns-in-None c = made_all c.args.rows c.args.self _ c.in-None.is refl refl
