use Rattle.std.proofs.Common.{sym, ◌∙◌}
use Rattle.plan_rewriting.proofs.Reduced.{reduced_is}
use Rattle.plan_rewriting.proofs.rewriting.reduced.Goals as goal

pub returns-in_ok-groups-in-Some : goal.returns-in_ok-groups-in-Some
returns-in_ok-groups-in-Some c =
    reduced_is c.args.block.now c.args.plan c.in-Some.table c.in_ok-term-in-Some.term c.as_slice.result.now c.preferred.result
    (sym c.table_of.ensures ∙ c.in-Some.is) c.in_ok-term-in-Some.ensures (c.as_slice.ensures ∙ c.in_ok-groups-in-Some.ensures) c.preferred.ensures
