use Rattle.std.proofs.Common.{◌∙◌, ap, ◌-◌, List, [], length}
use Rattle.prefsql_tables.specs.declared.place.ColumnPlace.{ColumnPlace}
use Rattle.query_meaning.specs.declared.block.FromTable.{FromTable}
use Rattle.plan_algebra.specs.declared.plan.Plan.{Plan}
use Rattle.plan_algebra.specs.declared.plan.Plan as plan
use Rattle.plan_stages.specs.Stages.{best_above, filtered, first_plan, joined}
use Rattle.plan_rules.proofs.Ends.{stage_0, stage_means, stage_valid}
use Rattle.plan_rules.proofs.StageEnds.{exact_is, first_end}
use Rattle.plan_rules.proofs.rules.start_plan.Goals as goal

pub returns-clause-exact : goal.returns-clause-exact
returns-clause-exact c =
    let block = c.args.block.now in
    let joins_of_tables : List FromTable → Plan = λ from. joined plan.Scan (λ table. []) (length from - 1) in
    let best_in : List ColumnPlace → Plan = λ groups. best_above block.term groups c.in_ok-candidates.candidates in
    exact_is c.filtered-2.result (filtered c.of-onlys.result c.in_ok-best.best) (first_plan block)
    (first_end block c.of-onlys.result c.of-wheres.result c.in_ok-joins.joins c.in_ok-candidates.candidates c.in_ok-best.best
    (c.of-onlys.ensures ∙ c.in_ok-onlys.ensures) (c.of-wheres.ensures ∙ c.in_ok-wheres.ensures)
    (c.in_ok-joins.ensures ∙ ap joins_of_tables c.as_slice.ensures) c.in_ok-candidates.ensures
    (c.in_ok-best.ensures ∙ ap best_in c.as_slice-2.ensures))
    c.filtered-2.ensures

pub returns-clause-valid : goal.returns-clause-valid
returns-clause-valid c =
    let block = c.args.block.now in
    stage_valid block c.requires (first_plan block) (stage_0 block c.requires) c.filtered-2.result (returns-clause-exact c)

pub returns-clause-meaning : goal.returns-clause-meaning
returns-clause-meaning c =
    let block = c.args.block.now in
    stage_means block c.requires (first_plan block) (stage_0 block c.requires) c.filtered-2.result (returns-clause-exact c)
