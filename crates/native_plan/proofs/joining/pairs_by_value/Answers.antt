use Rattle.std.proofs.Common.{◌≡◌, ◌+◌, ◌<◌, ◌++◌, ℕ, List, [], length, map, filter, get_or, All, sym, ap, subst, ◌∙◌}
use Rattle.prefsql_tables.specs.declared.place.Combo.{Combo}
use Rattle.prefsql_values.specs.Value.{value_of}
use Rattle.prefsql_values.specs.declared.value.Value.{Value}
use Rattle.plan_groups.specs.Groups.{row_at}
use Rattle.value_index.specs.Places.{equal_places, places_in}
use Rattle.native_plan.specs.Asking.{CanAskAll, holds_all, sees}
use Rattle.native_plan.specs.Combos.{pair}
use Rattle.native_plan.proofs.Joins.{all_right_seen, joined_by_value, left_seen, no_rows, pairs_more, places_within}
use Rattle.native_plan.proofs.joining.pairs_by_value.Goals as goal

pub cells_in-requires : goal.cells_in-requires
cells_in-requires c =
    all_right_seen c.args.asked.now c.args.conjuncts.now c.args.first c.args.middle c.args.columns c.requires.equated (get_or c.args.lefts.now 0 no_rows) c.args.rights.now
    (c.requires.ends 0 no_rows c.requires.some_left) (c.requires.askable 0 no_rows c.requires.some_left)

pub cell_in_sight-cell-requires : goal.cell_in_sight-cell-requires
cell_in_sight-cell-requires c =
    let left = c.left-item.result in
    let i = c.loop-left.left-index in
    let small = c.loop-left-test.true in
    let ends : c.args.first + length left.rows ≡ c.args.middle = subst (λ (l : Combo). c.args.first + length l.rows ≡ c.args.middle) (sym c.left-item.is) (c.requires.ends i left small) in
    let asks : All (λ r. CanAskAll c.args.asked.now c.args.conjuncts.now c.args.first (pair left r)) c.args.rights.now =
    subst (λ (l : Combo). All (λ r. CanAskAll c.args.asked.now c.args.conjuncts.now c.args.first (pair l r)) c.args.rights.now) (sym c.left-item.is) (c.requires.askable i left small)
    in
    left_seen c.args.asked.now c.args.conjuncts.now c.args.first c.args.middle c.args.columns c.requires.equated left (get_or c.args.rights.now 0 no_rows) ends (asks 0 no_rows c.requires.some_right)

pub add_partners-requires-clause-there : goal.add_partners-requires-clause-there
add_partners-requires-clause-there c =
    let asked = c.args.asked.now in
    let see : Combo → Value = λ right. sees asked c.args.middle right c.args.columns.right in
    let v = sees asked c.args.first c.left-item.result c.args.columns.left in
    let values : map value_of c.as_slice.result.now ≡ map see c.args.rights.now = ap (map value_of) c.as_slice.ensures.value ∙ c.in_ok-cells.ensures in
    let cell : value_of c.cell_in_sight-cell.result ≡ v = c.cell_in_sight-cell.ensures in
    let found : c.places-partners.result.now ≡ equal_places (map see c.args.rights.now) v =
    c.places-partners.ensures ∙ c.in_ok-index.ensures.places (value_of c.cell_in_sight-cell.result) ∙ (λ j. equal_places (values j) (cell j))
    in
    subst (λ (ps : List ℕ). All (λ place. place < length c.args.rights.now) ps) (sym found) (places_within c.args.rights.now see v)

pub loop-left-preserved : goal.loop-left-preserved
loop-left-preserved c =
    let asked = c.args.asked.now in
    let see : Combo → Value = λ right. sees asked c.args.middle right c.args.columns.right in
    let v = sees asked c.args.first c.left-item.result c.args.columns.left in
    let values : map value_of c.as_slice.result.now ≡ map see c.args.rights.now = ap (map value_of) c.as_slice.ensures.value ∙ c.in_ok-cells.ensures in
    let cell : value_of c.cell_in_sight-cell.result ≡ v = c.cell_in_sight-cell.ensures in
    let found : c.places-partners.result.now ≡ equal_places (map see c.args.rights.now) v =
    c.places-partners.ensures ∙ c.in_ok-index.ensures.places (value_of c.cell_in_sight-cell.result) ∙ (λ j. equal_places (values j) (cell j))
    in
    let left = c.left-item.result in
    let i = c.loop-left.left-index in
    let small = c.loop-left-test.true in
    let ends : c.args.first + length left.rows ≡ c.args.middle = subst (λ (l : Combo). c.args.first + length l.rows ≡ c.args.middle) (sym c.left-item.is) (c.requires.ends i left small) in
    let asks : All (λ r. CanAskAll asked c.args.conjuncts.now c.args.first (pair left r)) c.args.rights.now =
    subst (λ (l : Combo). All (λ r. CanAskAll asked c.args.conjuncts.now c.args.first (pair l r)) c.args.rights.now) (sym c.left-item.is) (c.requires.askable i left small)
    in
    let test = holds_all asked c.args.conjuncts.now c.args.first in
    pairs_more test c.args.lefts.now c.args.rights.now i left c.loop-left.combos.items c.add_partners.new.combos.items small c.left-item.is c.loop-left.invariant
    (c.in_ok-add_partners.ensures
    ∙ ap (λ (ps : List ℕ). c.loop-left.combos.items ++ filter test (map (λ place. pair left (row_at c.args.rights.now place)) ps)) found
    ∙ ap (λ (ps : List Combo). c.loop-left.combos.items ++ ps)
    (joined_by_value asked c.args.conjuncts.now c.args.first c.args.middle c.args.columns c.requires.equated left c.args.rights.now ends asks))
