use Rattle.std.proofs.Common.{sym, subst}
use Rattle.plan_groups.specs.Groups.{AreInSight}
use Rattle.plan_groups.proofs.Keys.{first_more}
use Rattle.plan_groups.proofs.members.members.Goals as goal

pub group_key-requires : goal.group_key-requires
group_key-requires c =
    subst (AreInSight c.args.bound.now) (sym c.index-combos-place.is) (c.requires c.loop-place.place c.index-combos-place.result c.loop-place-test.true)

pub loop-place-preserved : goal.loop-place-preserved
loop-place-preserved c =
    first_more c.args.bound.now c.args.combos.now c.loop-place.members.items c.push.new.self.items
    (record { place = c.loop-place.place; key = c.in_ok-group_key.field-0 }) c.index-combos-place.result
    c.loop-place.invariant c.in_ok-push.ensures.items c.loop-place-test.true c.index-combos-place.is c.in_ok-group_key.ensures
