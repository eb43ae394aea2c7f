-- A valid plan needs no more tests of the preference than it may take, since each row has a best one in its group.
use Rattle.std.proofs.Common.{◌≡◌, ℕ, ◌≤◌, Bool, true, List, [], ◌∷◌, length, filter, All, inl, inr, ⊎_elim, refl, sym, subst, arith}
use Rattle.std.specs.Ordering.{on}
use Rattle.std.specs.Prelude.{sum_by}
use Rattle.std.proofs.lemmas.Bool.{and_parts}
use Rattle.std.proofs.lemmas.List.Sums.{sum_by-cons}
use Rattle.prefsql_tables.specs.Sight.{Sight}
use Rattle.prefsql_tables.specs.Table.{Tables}
use Rattle.prefsql_tables.specs.declared.place.ColumnPlace.{ColumnPlace}
use Rattle.prefsql_tables.specs.declared.place.Combo.{Combo}
use Rattle.order_laws.specs.Best.{best}
use Rattle.order_laws.proofs.BestLaws.{IsOrderAmong, among_best, dominated, order_from_lawful}
use Rattle.order_laws.proofs.Members.{Among, among_filter}
use Rattle.pref_terms.specs.BoundLaws.{bound_lawful, same_group-equivalence}
use Rattle.pref_terms.specs.Fits.{TermFits}
use Rattle.pref_terms.specs.Terms.{grouped_order, is_same_group, order_of}
use Rattle.pref_terms.specs.declared.term.Term.{Term}
use Rattle.query_meaning.specs.Answers.{indexes_of}
use Rattle.query_meaning.specs.Asking.{IsAsked}
use Rattle.query_meaning.specs.BlockFits.{FitsTables, HasPlaces}
use Rattle.query_meaning.specs.declared.asking.Asked.{Asked}
use Rattle.query_meaning.specs.declared.block.Block.{Block}
use Rattle.plan_algebra.proofs.Induction.{plan_induction}
use Rattle.plan_algebra.specs.Meaning.{found_by, seen_from}
use Rattle.plan_algebra.specs.Tests.{tested_by, tests_between}
use Rattle.plan_algebra.specs.Valid.{IsPlanOf, nodes_of}
use Rattle.plan_algebra.specs.declared.plan.Conjunct.{Conjunct}
use Rattle.plan_algebra.specs.declared.plan.Plan.{Plan, Filter, Join, Best}
use Rattle.plan_algebra.specs.declared.plan.Plan as plan
use Rattle.native_plan.specs.Finding.{IsPartOf}
use Rattle.native_plan.proofs.Arms.{all_from}
use Rattle.native_plan.proofs.Nodes.{bound-Best, bound-Filter, bound-Join, floor-Best, floor-Filter, floor-Join, floor-Scan}
use Rattle.native_plan.proofs.Parts.{below_best, below_filter, best_ranks, judged, left_part, right_part}
use Rattle.native_plan.proofs.Rows.{are_rows, first_is}

-- ---- lists

some_among : {X : Type 0} (xs : List X) (x : X) → Among xs x → 1 ≤ length xs
some_among [] x a = absurd a
some_among (y ∷ ys) x a = omega arith

each_once : {X : Type 0} (f : X → ℕ) (xs : List X) → ((x : X) → Among xs x → 1 ≤ f x) → length xs ≤ sum_by f xs
each_once f [] some = omega arith
each_once f (x ∷ xs) some =
    let first = some x (inl refl) in
    let rest = each_once f xs (λ y a. some y (inr a)) in
    omega (arith, first, rest, sum_by-cons f x xs)

-- where better items are of one group, each item has a best one in its group
module _ {X : Type 0} {better : X → X → Bool} {xs : List X} (order : IsOrderAmong better xs) (joined : X → X → Bool) (own : (x : X) → joined x x ≡ true) (within : (y x : X) → better y x ≡ true → joined y x ≡ true) where
  best_in_group : (x : X) → Among xs x → 1 ≤ length (filter (λ y. joined y x) (best better xs))
  best_in_group x a =
      let Bests : List X = best better xs in
      let found : (y : X) → Among (best better xs) y → joined y x ≡ true → 1 ≤ length (filter (λ y. joined y x) (best better xs)) =
      λ y b j. some_among (filter (λ z. joined z x) Bests) y (among_filter (λ z. joined z x) Bests y b j) in
      ⊎_elim (λ unbettered. found x (among_best better xs x a unbettered) (own x)) (λ z. found z.0 z.1 (within z.0 x z.2)) (dominated order x a)

  all_counted : length xs ≤ sum_by (λ x. length (filter (λ y. joined y x) (best better xs))) xs
  all_counted = each_once (λ x. length (filter (λ y. joined y x) (best better xs))) xs best_in_group

-- ---- plans

module _ (tables : Tables) (block : Block) (places : HasPlaces block) (fits : FitsTables tables block) where
  abbrev asked : Asked
  asked = record {
    block = record { ref_ptr = (0, 0); now = block };
    tables = record { ref_ptr = (0, 0); now = tables };
    from = record { ref_ptr = (0, 0); now = indexes_of block.from };
  }

  is : IsAsked asked
  is = record { places = places; fits = fits; from = refl }

  abbrev Agree : Plan → Type 0
  Agree p = IsPartOf block p → (tested_by tables block p).floor ≤ (tested_by tables block p).bound

  module _ (t : Term) (groups : List ColumnPlace) (p : Plan) (part : IsPartOf block (Best t groups p)) where
    abbrev rows : List Combo
    rows = (found_by tables block p).combos

    abbrev first : ℕ
    first = (found_by tables block p).first

    rows_judged : All (λ (combo : Combo). TermFits tables (indexes_of block.from) (found_by tables block p).first combo.rows t groups) (found_by tables block p).combos
    rows_judged =
        let below = below_best block t groups p part in
        let Judged : ℕ → Combo → Type 0 = λ n combo. TermFits tables (indexes_of block.from) n combo.rows t groups in
        subst (λ n. All (Judged n) rows) (sym (first_is tables block p below.first below.count below.tables))
        (all_from (Judged below.first) rows (λ combo a.
        judged asked is below.first below.count (nodes_of p).tables below.tables below.within combo (are_rows tables block p combo a) t groups (best_ranks block t groups p part)))

    abbrev see : Combo → Sight
    see = seen_from tables block (found_by tables block p).first

    abbrev better : Combo → Combo → Bool
    better = on (seen_from tables block (found_by tables block p).first) ((grouped_order groups t).better)

    ordered : IsOrderAmong (on (seen_from tables block (found_by tables block p).first) ((grouped_order groups t).better)) (found_by tables block p).combos
    ordered = order_from_lawful (bound_lawful tables (indexes_of block.from) first t groups) rows rows_judged

    enough : length (found_by tables block p).combos
        ≤ tests_between groups (seen_from tables block (found_by tables block p).first) (found_by tables block p).combos
        (best (on (seen_from tables block (found_by tables block p).first) ((grouped_order groups t).better)) (found_by tables block p).combos)
    enough =
        all_counted ordered (λ y x. is_same_group groups (see y) (see x))
        (λ x. (same_group-equivalence groups).refl (see x))
        (λ y x b. (and_parts (is_same_group groups (see y) (see x)) ((order_of t).better (see y) (see x)) b).0)

  at_best : (t : Term) (groups : List ColumnPlace) (below : Plan) → Agree below → Agree (Best t groups below)
  at_best t groups below agree part =
      let floor = floor-Best tables block t groups below in
      let bound = bound-Best tables block t groups below in
      let more = enough t groups below part in
      let less = agree (below_best block t groups below part) in
      omega (arith, floor, bound, more, less)

  at_join : (left right : Plan) → Agree left → Agree right → Agree (Join left right)
  at_join left right one other part =
      let floor = floor-Join tables block left right in
      let bound = bound-Join tables block left right in
      let first = one (left_part block left right part) in
      let second = other (right_part block left right part) in
      omega (arith, floor, bound, first, second)

  at_filter : (cs : List Conjunct) (below : Plan) → Agree below → Agree (Filter cs below)
  at_filter cs below agree part =
      let floor = floor-Filter tables block cs below in
      let bound = bound-Filter tables block cs below in
      let less = agree (below_filter block cs below part) in
      omega (arith, floor, bound, less)

  at_scan : (table : ℕ) → Agree (plan.Scan table)
  at_scan table part = let none = floor-Scan tables block table in omega (arith, none)

  pub floor_bound : (p : Plan) → IsPlanOf block p → (tested_by tables block p).floor ≤ (tested_by tables block p).bound
  floor_bound p whole =
      plan_induction Agree at_scan at_filter at_join at_best p
      (record { first = 0; count = length block.from; tables = whole.tables; within = omega arith; conjuncts = whole.conjuncts; bests = whole.bests })
