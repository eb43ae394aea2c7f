use Rattle.std.proofs.Common.{map, ap, ◌∙◌}
use Rattle.prefsql_values.specs.Value.{value_of}
use Rattle.plan_groups.specs.Firsts.{first_equal}
use Rattle.plan_groups.proofs.OutcomeLaws.{not_explicit, turned_keys_tell, turned_values_tell}
use Rattle.plan_groups.proofs.leaf_tests.leaf_test.Goals as goal

pub returns-then-not-leaf : goal.returns-then-not-leaf
returns-then-not-leaf c =
    turned_keys_tell c.args.bound.now c.args.combos.now c.args.leaf.now c.keeps_limits.ensures c.requires c.args.turned
    (not_explicit c.args.leaf.now.base c.is_weak.result c.is_weak.ensures c.if-not-is_weak.false) c.if-not-leaf.true

pub returns : goal.returns
returns c =
    let vs = ap (map value_of) c.as_slice.ensures.value ∙ c.in_ok-cells.ensures in
    turned_values_tell c.args.bound.now c.args.combos.now c.args.leaf.now c.keeps_limits.ensures c.requires c.args.turned c.in_ok-firsts_of.field-0.items
    (c.in_ok-firsts_of.ensures ∙ (λ j. map (first_equal (vs j)) (vs j)))
    (not_explicit c.args.leaf.now.base c.is_weak.result c.is_weak.ensures c.if-not-is_weak.false) c.if-not-leaf.false
