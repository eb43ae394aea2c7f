use Rattle.std.proofs.Common.{◌≡◌, false, sym, ◌∙◌}
use Rattle.std.specs.Ordering.{is_eq}
use Rattle.plan_groups.specs.Members.{by_group}
use Rattle.plan_groups.proofs.Keys.{not_first}
use Rattle.plan_groups.proofs.members.run_length.Goals as goal

pub returns-then-not-is_same_group-clause-some : goal.returns-then-not-is_same_group-clause-some
returns-then-not-is_same_group-clause-some c =
    let differs : is_eq (by_group c.index-members-0.result c.index-members-place.result) ≡ false = sym c.is_same_group.ensures ∙ c.if-not-is_same_group.true in
    not_first c.args.members.now c.loop-place.place c.index-members-0.result c.index-members-place.result c.requires c.index-members-0.is c.index-members-place.is differs
