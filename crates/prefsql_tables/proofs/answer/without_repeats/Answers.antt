use Rattle.std.proofs.Common.{sym, ◌∙◌}
use Rattle.std.specs.Vec.Iter.{into_iter_items}
use Rattle.prefsql_tables.proofs.PassLemmas.{pass_there, pass_new, pass_ends}
use Rattle.prefsql_tables.proofs.answer.without_repeats.Goals as goal

pub loop-row-preserved-in-Continue-1 : goal.loop-row-preserved-in-Continue-1
loop-row-preserved-in-Continue-1 c =
    rw c.in_ok-push.ensures.ok
    (pass_new c.args.rows.items c.loop-row.yielded (into_iter_items c.loop-row.row-iterator) (into_iter_items c.next.new.self) c.loop-row.once c.in-Some.row c.loop-row.invariant c.in-Some.ensures.steps.0 (rw (← c.as_slice.ensures) c.if-not-ends_with.ensures.differs))

pub loop-row-preserved : goal.loop-row-preserved
loop-row-preserved c =
    pass_there c.args.rows.items c.loop-row.yielded (into_iter_items c.loop-row.row-iterator) (into_iter_items c.next.new.self) c.loop-row.once c.in-Some.row c.loop-row.invariant c.in-Some.ensures.steps.0
    (rw (← c.as_slice.ensures) c.if-not-ends_with.ensures.there)

pub returns : goal.returns
returns c =
    pass_ends c.args.rows.items c.loop-row.yielded (into_iter_items c.loop-row.row-iterator) c.loop-row.once c.loop-row.invariant (sym c.loop-row.row-iterator.rest.ok.0 ∙ c.in-None.ensures.steps.0)
