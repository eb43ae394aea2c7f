use Rattle.prefsql_tables.proofs.PassLemmas.{arranged_once}
use Rattle.prefsql_tables.proofs.answer.Answer.arrange.Goals as goal

pub returns-clause-rows : goal.returns-clause-rows
returns-clause-rows c =
    arranged_once c.args.distinct c.args.keys.now c.args.self.rows c.in_ok-sorted.sorted.items c.in_ok-rows.rows c.if-not-distinct.false
    (rw (← c.into_vec.ensures) c.in_ok-sorted.ensures.same) c.in_ok-sorted.ensures.sorted c.in_ok-rows.ensures
