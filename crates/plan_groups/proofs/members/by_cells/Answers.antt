use Rattle.std.proofs.Common.{◌≤◌, length, rules, sym, ◌∙◌, arith}
use Rattle.prefsql_tables.proofs.OrderLemmas.{ends_first}
use Rattle.plan_groups.specs.Members.{cell_order}
use Rattle.plan_groups.proofs.Keys.{ends_last}
use Rattle.plan_groups.proofs.members.by_cells.Goals as goal

pub returns-in-None : goal.returns-in-None
returns-in-None c =
    let ended : length c.args.b.now ≤ c.loop-place.place = search rules in
    sym (c.loop-place.invariant ∙ ends_last cell_order c.args.a.now c.args.b.now c.loop-place.place (omega arith) ended)

pub returns-then-a-b : goal.returns-then-a-b
returns-then-a-b c = sym (c.loop-place.invariant ∙ ends_first cell_order c.args.a.now c.args.b.now c.loop-place.place (omega arith) (omega arith))
