use Rattle.conditions.proofs.PlaceReads.{reads-Between, reads-Compare, reads-OneOf}
use Rattle.plan_stages.proofs.Loops.{three_more, two_more}
use Rattle.plan_stages.proofs.conjuncts.+places.Goals as goal

pub add_places-returns-in_ok-add_scalar_places-in-Compare-2 : goal.add_places-returns-in_ok-add_scalar_places-in-Compare-2
add_places-returns-in_ok-add_scalar_places-in-Compare-2 t c =
    two_more _ _ _ _ _ _ c.in_ok-add_scalar_places-in-Compare.ensures c.in_ok-add_scalar_places-in-Compare-2.ensures
    (reads-Compare c.args.cond.now c.in-Compare.field-0 c.in-Compare.a c.in-Compare.b c.in-Compare.is)

pub add_places-returns-in_ok-add_scalar_places-in-Between-3 : goal.add_places-returns-in_ok-add_scalar_places-in-Between-3
add_places-returns-in_ok-add_scalar_places-in-Between-3 t c =
    three_more _ _ _ _ _ _ _ _ c.in_ok-add_scalar_places-in-Between.ensures c.in_ok-add_scalar_places-in-Between-2.ensures c.in_ok-add_scalar_places-in-Between-3.ensures
    (reads-Between c.args.cond.now c.in-Between.field-0 c.in-Between.a c.in-Between.low c.in-Between.high c.in-Between.is)

pub add_places-returns-in_ok-add_list_places-in-OneOf : goal.add_places-returns-in_ok-add_list_places-in-OneOf
add_places-returns-in_ok-add_list_places-in-OneOf t c =
    two_more _ _ _ _ _ _ c.in_ok-add_scalar_places-in-OneOf.ensures (rw c.as_slice-in-OneOf.ensures at c.in_ok-add_list_places-in-OneOf.ensures)
    (reads-OneOf c.args.cond.now c.in-OneOf.field-0 c.in-OneOf.a c.in-OneOf.list c.in-OneOf.is)
