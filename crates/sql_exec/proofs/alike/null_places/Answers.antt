use Rattle.sql_exec.proofs.AlikeColumns.{nulls_said}
use Rattle.sql_exec.proofs.alike.null_places.Goals as goal

pub returns-in_ok-b-in-And : goal.returns-in_ok-b-in-And
returns-in_ok-b-in-And c =
    nulls_said c.args.cond.now c.in-And.parts c.as_slice-parts.result.now c.index-parts-0.result c.index-parts-1.result c.in_ok-a-in-And.a c.in_ok-b-in-And.b c.in-And.is c.as_slice-parts.ensures
    c.if-parts-ne2.false c.index-parts-0.is c.index-parts-1.is c.in_ok-a-in-And.ensures c.in_ok-b-in-And.ensures
