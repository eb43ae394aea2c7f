use Rattle.sql_exec.proofs.AlikeColumns.{alike_said, same_place}
use Rattle.sql_exec.proofs.alike.alike_places.Goals as goal

pub returns-then-eq-2 : goal.returns-then-eq-2
returns-then-eq-2 c =
    alike_said c.args.cond.now c.in-Or.parts c.as_slice-parts.result.now c.index-parts-0.result c.index-parts-1.result c.in_ok-a-in-Or.a c.in_ok-a-in-Or.b c.in_ok-c-in-Or.c c.in_ok-c-in-Or.d c.in-Or.is c.as_slice-parts.ensures
    c.if-parts-ne2.false c.index-parts-0.is c.index-parts-1.is c.in_ok-a-in-Or.ensures c.in_ok-c-in-Or.ensures (same_place c.in_ok-a-in-Or.a c.in_ok-c-in-Or.c c.if-eq.ensures) (same_place c.in_ok-a-in-Or.b c.in_ok-c-in-Or.d c.if-eq-2.ensures)
