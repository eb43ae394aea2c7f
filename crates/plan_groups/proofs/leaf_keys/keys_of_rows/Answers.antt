use Rattle.std.proofs.Common.{sym, subst}
use Rattle.plan_groups.specs.Groups.{IsJudged}
use Rattle.plan_groups.proofs.leaf_keys.keys_of_rows.Goals as goal

pub push_keys-requires : goal.push_keys-requires
push_keys-requires c =
    (subst (IsJudged c.args.bound.now) (sym c.combo-item.is) (c.requires c.loop-combo.combo-index c.combo-item.result c.loop-combo-test.true)).leaves
