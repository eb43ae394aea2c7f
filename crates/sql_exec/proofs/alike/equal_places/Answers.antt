use Rattle.sql_exec.proofs.AlikeColumns.{equal_said}
use Rattle.sql_exec.proofs.alike.equal_places.Goals as goal

pub returns-in_ok-b-in-Compare : goal.returns-in_ok-b-in-Compare
returns-in_ok-b-in-Compare c =
    equal_said c.args.cond.now c.in-Compare.op c.in-Compare.a c.in-Compare.b c.in_ok-a-in-Compare.a c.in_ok-b-in-Compare.b c.in-Compare.is (c.is_equality.ensures c.if-not-is_equality.false)
    c.in_ok-a-in-Compare.ensures c.in_ok-b-in-Compare.ensures
