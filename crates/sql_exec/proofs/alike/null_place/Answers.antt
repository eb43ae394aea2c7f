use Rattle.sql_exec.proofs.AlikeColumns.{null_said}
use Rattle.sql_exec.proofs.alike.null_place.Goals as goal

pub returns-in_ok-place-in-IsNull : goal.returns-in_ok-place-in-IsNull
returns-in_ok-place-in-IsNull c = null_said c.args.cond.now c.in-IsNull.negate c.in-IsNull.a c.in_ok-place-in-IsNull.place c.in-IsNull.is c.if-negate.false c.in_ok-place-in-IsNull.ensures
