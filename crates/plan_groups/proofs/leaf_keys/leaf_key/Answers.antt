use Rattle.std.proofs.Common.{◌≡◌, ◌^◌, ◌<ℤ◌, ◌-ℤ◌, ℤ, pos, neg_ℤ, Bool, sym, ap, ◌∙◌, subst, arith}
use Rattle.std.specs.Int.{w128}
use Rattle.std.proofs.lemmas.Int.{to_z-of_z}
use Rattle.std.proofs.lemmas.Int.{ints}
use Rattle.prefsql_values.specs.Value.{value_of}
use Rattle.base_prefs.specs.Kind.{key_of}
use Rattle.pref_terms.proofs.Judged.{fits_judged}
use Rattle.plan_groups.specs.Groups.{seen_by}
use Rattle.plan_groups.specs.Outcomes.{turned_key}
use Rattle.plan_groups.proofs.KeyAdds.{key_low}
use Rattle.plan_groups.proofs.leaf_keys.leaf_key.Goals as goal

pub overflow_sub-result : goal.overflow_sub-result
overflow_sub-result c =
    let bound = c.args.bound.now in
    let leaf = c.args.leaf.now in
    let k = c.value_key-key.result in
    let seen = seen_by bound c.args.combo.now leaf.place in
    let key_is : k ≡ key_of leaf.base seen = c.value_key-key.ensures ∙ ap (key_of leaf.base) c.cell_in_sight-cell.ensures in
    let low : neg_ℤ (pos (2 ^ 127)) <ℤ k =
    subst (λ z. neg_ℤ (pos (2 ^ 127)) <ℤ z) (sym key_is)
    (key_low leaf.base seen (fits_judged bound.tables.now bound.from.now bound.first c.args.combo.now.rows leaf c.keeps_limits.ensures c.requires))
    in
    rw (to_z-of_z w128 k (record { sfits = c.value_key-key.type_inv })) (record { sfits = grind (arith, low, c.value_key-key.type_inv) })

pub returns-then-turned : goal.returns-then-turned
returns-then-turned c =
    let bound = c.args.bound.now in
    let leaf = c.args.leaf.now in
    let k = c.value_key-key.result in
    let seen = seen_by bound c.args.combo.now leaf.place in
    let key_is : k ≡ key_of leaf.base seen = c.value_key-key.ensures ∙ ap (key_of leaf.base) c.cell_in_sight-cell.ensures in
    let low : neg_ℤ (pos (2 ^ 127)) <ℤ k =
    subst (λ z. neg_ℤ (pos (2 ^ 127)) <ℤ z) (sym key_is)
    (key_low leaf.base seen (fits_judged bound.tables.now bound.from.now bound.first c.args.combo.now.rows leaf c.keeps_limits.ensures c.requires))
    in
    let turned : pos 0 -ℤ k ≡ neg_ℤ k = omega (arith, ints) in
    rw (to_z-of_z w128 k (record { sfits = c.value_key-key.type_inv }))
    (to_z-of_z w128 (pos 0 -ℤ k) (record { sfits = grind (arith, low, c.value_key-key.type_inv) })
    ∙ turned ∙ ap neg_ℤ key_is ∙ sym (ap (λ (b : Bool). turned_key b (key_of leaf.base seen)) c.if-turned.true))
