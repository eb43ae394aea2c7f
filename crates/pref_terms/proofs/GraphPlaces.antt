-- Which value of a graph is better, from the places of the two values among those of the graph.
use Rattle.std.proofs.Common.{◌≡◌, ◌↔◌, suc, ◌+◌, ◌<◌, ◌≤◌, Bool, true, false, not, ◌&&◌, ◌||◌, List, [], ◌∷◌, length, Option, Some, None, slice_get, inl, inr, refl, sym, ap, subst, ◌∙◌, arith, add-one}
use Rattle.std.specs.Prelude.{IsTrue}
use Rattle.std.proofs.lemmas.Bool.{cases_Bool, false_from_ne_true, both_ways}
use Rattle.prefsql_values.specs.declared.value.Value.{Value}
use Rattle.prefsql_values.specs.Value.{value_eq}
use Rattle.prefsql_values.proofs.ValueEq.{value_eq-Decides, value_eq-equivalence}
use Rattle.order_laws.proofs.Members.{any_from}
use Rattle.order_laws.proofs.BestLaws.{same_tests}
use Rattle.base_prefs.specs.declared.edge.Edge.{Edge}
use Rattle.base_prefs.specs.View.{IsAboveAt}
use Rattle.base_prefs.specs.Graph.{graph_values, explicit_better, is_above, IsAbove}
use Rattle.base_prefs.specs.Values.{is_in, place_of}
use Rattle.base_prefs.specs.GraphLaws.{above_upper}
use Rattle.base_prefs.proofs.Paths.{is_above-Decides}

-- a place within the list is that of one of the values
within_is_in : (vs : List Value) (v : Value) → place_of vs v < length vs → is_in vs v ≡ true
within_is_in [] v h = absurd (omega arith)
within_is_in (w ∷ ws) v h =
    elim (cases_Bool (value_eq w v)) [
      | inl same ↦ rw same refl
      | inr other ↦ rw other (within_is_in ws v (let small : place_of ws v + 1 < suc (length ws) = (rw other at h) in omega arith))
    ]

past_not_in : (vs : List Value) (v : Value) → length vs ≤ place_of vs v → is_in vs v ≡ false
past_not_in [] v h = refl
past_not_in (w ∷ ws) v h =
    elim (cases_Bool (value_eq w v)) [
      | inl same ↦ absurd (let none : suc (length ws) ≤ 0 = (rw same at h) in omega arith)
      | inr other ↦ rw other (past_not_in ws v (let past : suc (length ws) ≤ place_of ws v + 1 = (rw other at h) in omega arith))
    ]

get_at_place : (vs : List Value) (v : Value) → place_of vs v < length vs → slice_get vs (place_of vs v) ≡ Some v
get_at_place [] v h = absurd (omega arith)
get_at_place (w ∷ ws) v h =
    elim (cases_Bool (value_eq w v)) [
      | inl same ↦ rw same (ap Some ((value_eq-Decides w v).0 same))
      | inr other ↦ rw (other, add-one) (get_at_place ws v (let small : place_of ws v + 1 < suc (length ws) = (rw other at h) in omega arith))
    ]

abbrev the_value : Option Value → Value → Value
the_value (Some v) d = v
the_value None d = d

either_none : (a b c : Bool) → a ≡ false → b ≡ false → false ≡ (a || (b && not c))
either_none false false c p q = refl
either_none true b c p q = absurd (cc)
either_none false true c p q = absurd (cc)

second_holds : (a b c : Bool) → b ≡ true → c ≡ false → true ≡ (a || (b && not c))
second_holds true b c p q = refl
second_holds false true false p q = refl
second_holds false false c p q = absurd (cc)
second_holds false true true p q = absurd (cc)

first_alone : (a b c : Bool) → c ≡ true → a ≡ (a || (b && not c))
first_alone true b c p = refl
first_alone false true true p = refl
first_alone false false c p = refl
first_alone false true false p = absurd (cc)

module _ (edges : List Edge) (vs : List Value) (listed : vs ≡ graph_values edges) (y x : Value) where
  -- a value that is none of the graph is not better
  pub none_better : length vs ≤ place_of vs y → false ≡ explicit_better edges y x
  none_better past =
      let not_in : is_in (graph_values edges) y ≡ false = subst (λ ws. is_in ws y ≡ false) listed (past_not_in vs y past) in
      let not_above : is_above edges y x ≡ false =
      false_from_ne_true (is_above edges y x) (λ h. both_ways (is_in (graph_values edges) y) not_in (any_from (λ w. value_eq w y) (graph_values edges) y (above_upper edges y x h) (value_eq-equivalence.refl y)))
      in
      either_none (is_above edges y x) (is_in (graph_values edges) y) (is_in (graph_values edges) x) not_above not_in

  -- a value of the graph is better than one that is none
  pub outside_worse : place_of vs y < length vs → length vs ≤ place_of vs x → true ≡ explicit_better edges y x
  outside_worse within past =
      second_holds (is_above edges y x) (is_in (graph_values edges) y) (is_in (graph_values edges) x)
      (subst (λ ws. is_in ws y ≡ true) listed (within_is_in vs y within)) (subst (λ ws. is_in ws x ≡ false) listed (past_not_in vs x past))

  -- of two values of the graph the one above is better
  pub above_better : (r : Bool) → place_of vs y < length vs → place_of vs x < length vs → (IsTrue r ↔ IsAboveAt edges (place_of vs y) (place_of vs x)) → r ≡ explicit_better edges y x
  above_better r y_within x_within told =
      let y_at : slice_get (graph_values edges) (place_of vs y) ≡ Some y = subst (λ ws. slice_get ws (place_of vs y) ≡ Some y) listed (get_at_place vs y y_within) in
      let x_at : slice_get (graph_values edges) (place_of vs x) ≡ Some x = subst (λ ws. slice_get ws (place_of vs x) ≡ Some x) listed (get_at_place vs x x_within) in
      let decides = is_above-Decides edges y x in
      let forth : r ≡ true → is_above edges y x ≡ true = λ h.
      let w = told.0 h in
      let y_is : w.0 ≡ y = ap (λ o. the_value o y) (sym w.2 ∙ y_at) in
      let x_is : w.1 ≡ x = ap (λ o. the_value o x) (sym w.3 ∙ x_at) in
      decides.1 (subst (λ v. IsAbove edges y v) x_is (subst (λ u. IsAbove edges u w.1) y_is w.4))
      in
      let back : is_above edges y x ≡ true → r ≡ true = λ h. told.1 (y, x, y_at, x_at, decides.0 h) in
      same_tests r (is_above edges y x) forth back
      ∙ first_alone (is_above edges y x) (is_in (graph_values edges) y) (is_in (graph_values edges) x) (subst (λ ws. is_in ws x ≡ true) listed (within_is_in vs x x_within))
