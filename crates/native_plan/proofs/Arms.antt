-- What is found at each node of a plan, from what is found below it.
use Rattle.std.proofs.Common.{◌≡◌, ℕ, ◌+◌, ◌<◌, ◌≤◌, min, true, List, [], ◌∷◌, length, get_or, map, filter, All, refl, sym, ap, ◌∙◌, subst, arith}
use Rattle.std.specs.Ordering.{on}
use Rattle.std.proofs.Math.Nat.{mul-le-mul_left}
use Rattle.std.proofs.lemmas.List.{length-map}
use Rattle.std.proofs.lemmas.List.Elements.{Contains-get_or}
use Rattle.std.proofs.lemmas.List.FromFn.{length-range_with_len}
use Rattle.prefsql_tables.specs.Table.{rows_of}
use Rattle.prefsql_tables.specs.declared.place.ColumnPlace.{ColumnPlace}
use Rattle.prefsql_tables.specs.declared.place.Combo.{Combo}
use Rattle.order_laws.specs.Best.{best}
use Rattle.order_laws.proofs.Members.{Among, among_flat_mapped, among_from_Contains, among_mapped, filter_true}
use Rattle.pref_terms.specs.Fits.{TermFits}
use Rattle.pref_terms.specs.Terms.{grouped_order, leaves_of, shown}
use Rattle.pref_terms.specs.declared.term.Term.{Term}
use Rattle.query_meaning.specs.Answers.{row_counts}
use Rattle.query_meaning.specs.Asking.{IsAsked}
use Rattle.query_meaning.proofs.ChoiceLemmas.{length-choice}
use Rattle.query_meaning.specs.Choices.{IsChoice}
use Rattle.query_meaning.specs.Valid.{block_leaves}
use Rattle.query_meaning.specs.declared.asking.Asked.{Asked}
use Rattle.query_meaning.specs.declared.block.Block.{Block}
use Rattle.plan_algebra.specs.Meaning.{Found, all_hold, pairs_of, seen_from, single_rows}
use Rattle.plan_algebra.specs.Tests.{tests_between}
use Rattle.plan_algebra.specs.Valid.{Nodes, nodes_of}
use Rattle.plan_algebra.specs.declared.plan.Conjunct.{Conjunct}
use Rattle.plan_algebra.specs.declared.plan.Plan.{Plan, Filter, Join, Best}
use Rattle.plan_algebra.specs.declared.plan.Plan as plan
use Rattle.native_plan.specs.Asking.{CanAskAll, holds_all, sees}
use Rattle.native_plan.specs.Combos.{pair, single}
use Rattle.native_plan.specs.Joining.{AllEndAt}
use Rattle.native_plan.specs.Finding.{IsBestOf, IsFoundBy, IsPartOf, StandsOver, found_in, last_count, passing_rows, tested_in}
use Rattle.native_plan.specs.declared.finding.FoundRows.{FoundRows}
use Rattle.native_plan.proofs.Nodes.{bound-Best, bound-Filter, bound-Join, floor-Best, floor-Filter, floor-Join, floor-Scan, found-Best, found-Filter, found-Join, found-Scan, nodes-Scan}
use Rattle.native_plan.proofs.Parts.{below_best, best_ranks, can_ask, few_leaves, judged, left_part, right_begins, right_part}
use Rattle.native_plan.proofs.Rows.{are_rows, first_is, scanned_table, single_choice}

pub all_from : {X : Type 0} (P : X → Type 0) (xs : List X) → ((x : X) → Among xs x → P x) → All P xs
all_from P xs each k d small = each (get_or xs k d) (among_from_Contains xs (get_or xs k d) (Contains-get_or xs k d small))

module _ (asked : Asked) (is : IsAsked asked) where
  abbrev block : Block
  block = asked.block.now

  abbrev given : Plan → List Combo
  given p = (found_in asked p).combos

  -- what a combination shows, by the positions of the block's tables
  sees_is : (first : ℕ) → sees asked first ≡ seen_from asked.tables.now block first
  sees_is first = λ j. shown asked.tables.now (is.from j) first

  held : (cs : List Conjunct) (first : ℕ) (combos : List Combo) → filter (holds_all asked cs first) combos ≡ filter (λ combo. all_hold block cs (seen_from asked.tables.now block first combo)) combos
  held cs first combos = λ j. filter (λ combo. all_hold block cs (sees_is first j combo)) combos

  nothing_asked : (p : Plan) → passing_rows asked p [] ≡ given p
  nothing_asked p = filter_true (λ combo. true) (given p) (λ combo. refl)

  -- the conditions over a part of the plan can be asked of each row of its tables
  module _ (p : Plan) (part : IsPartOf block p) where
    starts : (found_in asked p).first ≡ part.first
    starts = first_is asked.tables.now block p part.first part.count part.tables

    pub ask_chosen : (cs : List Conjunct) → All (StandsOver block p) cs → (combo : Combo)
        → IsChoice (map (λ t. get_or (row_counts asked.tables.now block.from) t 0) (nodes_of p).tables) combo.rows → CanAskAll asked cs (found_in asked p).first combo
    ask_chosen cs stands combo chosen =
        subst (λ first. CanAskAll asked cs first combo) (sym starts)
        (λ k d small. can_ask asked is part.first part.count (nodes_of p).tables part.tables part.within combo chosen (get_or cs k d) (stands k d small))

    ask_given : (cs : List Conjunct) → All (StandsOver block p) cs → (combo : Combo) → Among (given p) combo → CanAskAll asked cs (found_in asked p).first combo
    ask_given cs stands combo a = ask_chosen cs stands combo (are_rows asked.tables.now block p combo a)

  -- ---- Scan

  -- the table of the set at the position that is kept has the rows that are counted
  pub scanned : (t : ℕ) → t < length block.from
      → (get_or asked.from.now t 0 < length asked.tables.now) × (length (rows_of asked.tables.now (get_or asked.from.now t 0)) ≡ get_or (row_counts asked.tables.now block.from) t 0)
  scanned t small =
      subst (λ (from : List ℕ). (get_or from t 0 < length asked.tables.now) × (length (rows_of asked.tables.now (get_or from t 0)) ≡ get_or (row_counts asked.tables.now block.from) t 0)) (sym is.from)
      (scanned_table asked.tables.now block.from is.fits t small)

  module _ (t : ℕ) (part : IsPartOf block (plan.Scan t)) where
    scan_tables : (nodes_of (plan.Scan t)).tables ≡ t ∷ []
    scan_tables = ap (λ (n : Nodes). n.tables) (nodes-Scan t)

    scan_first : (found_in asked (plan.Scan t)).first ≡ t
    scan_first = ap (λ (f : Found). f.first) (found-Scan asked.tables.now block t)

    pub scan_there : t < length block.from
    scan_there =
        let starts_at : t ≡ part.first = sym scan_first ∙ starts (plan.Scan t) part in
        let one : length (t ∷ []) ≡ part.count = ap length (sym scan_tables ∙ part.tables) ∙ length-range_with_len part.first part.count in
        let within = part.within in
        omega (arith, starts_at, one, within)

    pub scan_askable : (cs : List Conjunct) → All (StandsOver block (plan.Scan t)) cs → (row : ℕ) → row < get_or (row_counts asked.tables.now block.from) t 0 → CanAskAll asked cs t (single row)
    scan_askable cs stands row small =
        subst (λ first. CanAskAll asked cs first (single row)) scan_first
        (ask_chosen (plan.Scan t) part cs stands (single row)
        (subst (λ (ts : List ℕ). IsChoice (map (λ u. get_or (row_counts asked.tables.now block.from) u 0) ts) (row ∷ [])) (sym scan_tables)
        (single_choice asked.tables.now block t row small)))

    pub scan_found : (cs : List Conjunct) (steps : ℕ) (found : FoundRows) → found.first ≡ t
        → found.combos.items ≡ filter (holds_all asked cs t) (single_rows (get_or (row_counts asked.tables.now block.from) t 0)) → found.tests ≡ 0
        → IsFoundBy asked (plan.Scan t) cs steps steps found
    scan_found cs steps found first combos tests =
        let none : (tested_in asked (plan.Scan t)).floor ≡ 0 = floor-Scan asked.tables.now block t in
        record {
          first = first ∙ sym scan_first;
          combos = combos ∙ held cs t (single_rows (get_or (row_counts asked.tables.now block.from) t 0))
              ∙ (λ j. filter (λ combo. all_hold block cs (seen_from asked.tables.now block (sym (found-Scan asked.tables.now block t) j).first combo)) (sym (found-Scan asked.tables.now block t) j).combos);
          floor = omega (arith, none);
          bound = omega (arith, tests);
          least_steps = omega (arith, tests);
          most_steps = λ h. omega arith;
        }

  -- ---- the rows that are left where conditions are asked of those of a node

  pub keep_askable : (p : Plan) (part : IsPartOf block p) (cs : List Conjunct) (first : ℕ) (combos : List Combo) → All (StandsOver block p) cs
      → first ≡ (found_in asked p).first → combos ≡ given p → All (CanAskAll asked cs first) combos
  keep_askable p part cs first combos stands first_same combos_same =
      subst (λ f. All (CanAskAll asked cs f) combos) (sym first_same)
      (subst (All (CanAskAll asked cs (found_in asked p).first)) (sym combos_same) (all_from (CanAskAll asked cs (found_in asked p).first) (given p) (ask_given p part cs stands)))

  kept_passing : (p : Plan) (cs : List Conjunct) (first : ℕ) (combos left : List Combo) → first ≡ (found_in asked p).first → combos ≡ given p
      → left ≡ filter (holds_all asked cs first) combos → left ≡ passing_rows asked p cs
  kept_passing p cs first combos left first_same combos_same kept =
      kept ∙ (λ j. filter (holds_all asked cs (first_same j)) (combos_same j)) ∙ held cs (found_in asked p).first (given p)

  -- ---- Filter

  module _ (cs : List Conjunct) (p : Plan) where
    filter_first : (found_in asked (Filter cs p)).first ≡ (found_in asked p).first
    filter_first = ap (λ (f : Found). f.first) (found-Filter asked.tables.now block cs p)

    filter_given : given (Filter cs p) ≡ passing_rows asked p cs
    filter_given = ap (λ (f : Found). f.combos) (found-Filter asked.tables.now block cs p)

    pub filter_askable : IsPartOf block (Filter cs p) → (conjuncts : List Conjunct) → All (StandsOver block (Filter cs p)) conjuncts → (before after : ℕ) (found : FoundRows)
        → IsFoundBy asked p cs before after found → All (CanAskAll asked conjuncts found.first) found.combos.items
    filter_askable part conjuncts stands before after found by =
        keep_askable (Filter cs p) part conjuncts found.first found.combos.items stands (by.first ∙ sym filter_first) (by.combos ∙ sym filter_given)

    pub filter_found : (conjuncts : List Conjunct) (before after : ℕ) (found left : FoundRows) → IsFoundBy asked p cs before after found
        → left.first ≡ found.first → left.combos.items ≡ filter (holds_all asked conjuncts found.first) found.combos.items → left.tests ≡ found.tests
        → IsFoundBy asked (Filter cs p) conjuncts before after left
    filter_found conjuncts before after found left by first combos tests =
        let floor_same = floor-Filter asked.tables.now block cs p in
        let bound_same = bound-Filter asked.tables.now block cs p in
        record {
          first = first ∙ by.first ∙ sym filter_first;
          combos = kept_passing (Filter cs p) conjuncts found.first found.combos.items left.combos.items (by.first ∙ sym filter_first) (by.combos ∙ sym filter_given) combos;
          floor = (let low = by.floor in omega (arith, low, floor_same, tests));
          bound = (let high = by.bound in omega (arith, high, bound_same, tests));
          least_steps = (let low = by.least_steps in omega (arith, low, tests));
          most_steps = λ h. (let below : found.tests < last_count = omega (arith, h, tests) in let high = by.most_steps below in omega (arith, high, tests));
        }

  -- ---- Join

  module _ (left right : Plan) where
    join_first : (found_in asked (Join left right)).first ≡ (found_in asked left).first
    join_first = ap (λ (f : Found). f.first) (found-Join asked.tables.now block left right)

    join_given : given (Join left right) ≡ pairs_of (given left) (given right)
    join_given = ap (λ (f : Found). f.combos) (found-Join asked.tables.now block left right)

    pub join_askable : IsPartOf block (Join left right) → (cs : List Conjunct) → All (StandsOver block (Join left right)) cs
        → (before between after : ℕ) (lefts rights : FoundRows) → IsFoundBy asked left [] before between lefts → IsFoundBy asked right [] between after rights
        → All (λ l. All (λ r. CanAskAll asked cs lefts.first (pair l r)) rights.combos.items) lefts.combos.items
    join_askable part cs stands before between after lefts rights first second =
        let one = first.combos ∙ nothing_asked left in
        let two = second.combos ∙ nothing_asked right in
        all_from (λ l. All (λ r. CanAskAll asked cs lefts.first (pair l r)) rights.combos.items) lefts.combos.items (λ l a.
        all_from (λ r. CanAskAll asked cs lefts.first (pair l r)) rights.combos.items (λ r b.
        subst (λ f. CanAskAll asked cs f (pair l r)) (join_first ∙ sym first.first)
        (ask_given (Join left right) part cs stands (pair l r)
        (subst (λ (cs : List Combo). Among cs (pair l r)) (sym join_given)
        (among_flat_mapped (λ (x : Combo). map (pair x) (given right)) (given left) l (pair l r) (subst (λ (xs : List Combo). Among xs l) one a)
        (among_mapped (pair l) (given right) r (subst (λ (xs : List Combo). Among xs r) two b)))))))

    pub join_found : (cs : List Conjunct) (before between after : ℕ) (lefts rights found : FoundRows) → IsFoundBy asked left [] before between lefts → IsFoundBy asked right [] between after rights
        → found.first ≡ lefts.first → found.combos.items ≡ filter (holds_all asked cs lefts.first) (pairs_of lefts.combos.items rights.combos.items)
        → found.tests ≡ min (lefts.tests + rights.tests) last_count → IsFoundBy asked (Join left right) cs before after found
    join_found cs before between after lefts rights found first second first_same combos tests =
        let one = first.combos ∙ nothing_asked left in
        let two = second.combos ∙ nothing_asked right in
        let floor_sum = floor-Join asked.tables.now block left right in
        let bound_sum = bound-Join asked.tables.now block left right in
        let low_left = first.floor in
        let low_right = second.floor in
        let high_left = first.bound in
        let high_right = second.bound in
        let steps_left = first.least_steps in
        let steps_right = second.least_steps in
        record {
          first = first_same ∙ first.first ∙ sym join_first;
          combos = kept_passing (Join left right) cs lefts.first (pairs_of lefts.combos.items rights.combos.items) found.combos.items (first.first ∙ sym join_first) ((λ j. pairs_of (one j) (two j)) ∙ sym join_given) combos;
          floor = omega (arith, low_left, low_right, floor_sum, tests);
          bound = omega (arith, high_left, high_right, bound_sum, tests);
          least_steps = omega (arith, steps_left, steps_right, tests);
          most_steps = λ h.
              let small_left : lefts.tests < last_count = omega (arith, h, tests) in
              let small_right : rights.tests < last_count = omega (arith, h, tests) in
              let most_left = first.most_steps small_left in
              let most_right = second.most_steps small_right in
              omega (arith, most_left, most_right, tests, h);
        }

  -- ---- Best

  module _ (t : Term) (groups : List ColumnPlace) (p : Plan) (part : IsPartOf block (Best t groups p)) where
    best_first : (found_in asked (Best t groups p)).first ≡ (found_in asked p).first
    best_first = ap (λ (f : Found). f.first) (found-Best asked.tables.now block t groups p)

    best_given : given (Best t groups p) ≡ best (on (seen_from asked.tables.now block (found_in asked p).first) ((grouped_order groups t).better)) (given p)
    best_given = ap (λ (f : Found). f.combos) (found-Best asked.tables.now block t groups p)

    pub best_judged : (before after : ℕ) (found : FoundRows) → IsFoundBy asked p [] before after found
        → All (λ (combo : Combo). TermFits asked.tables.now asked.from.now found.first combo.rows t groups) found.combos.items
    best_judged before after found by =
        let below = below_best block t groups p part in
        let Judged : ℕ → Combo → Type 0 = λ first combo. TermFits asked.tables.now asked.from.now first combo.rows t groups in
        subst (λ f. All (Judged f) found.combos.items) (sym (by.first ∙ starts p below))
        (subst (All (Judged below.first)) (sym (by.combos ∙ nothing_asked p))
        (all_from (Judged below.first) (given p) (λ combo a.
        judged asked is below.first below.count (nodes_of p).tables below.tables below.within combo (are_rows asked.tables.now block p combo a) t groups (best_ranks block t groups p part))))

    module _ (before between after : ℕ) (found left : FoundRows) (by : IsFoundBy asked p [] before between found) (of : IsBestOf asked t groups between after found left) where
      first_same : left.first ≡ (found_in asked (Best t groups p)).first
      first_same = of.first ∙ by.first ∙ sym best_first

      combos_same : left.combos.items ≡ given (Best t groups p)
      combos_same =
          of.combos
          ∙ (λ j. best (on (sees asked (by.first j)) ((grouped_order groups t).better)) ((by.combos ∙ nothing_asked p) j))
          ∙ (λ j. best (on (sees_is (found_in asked p).first j) ((grouped_order groups t).better)) (given p))
          ∙ sym best_given

      pub best_askable : (cs : List Conjunct) → All (StandsOver block (Best t groups p)) cs → All (CanAskAll asked cs left.first) left.combos.items
      best_askable cs stands = keep_askable (Best t groups p) part cs left.first left.combos.items stands first_same combos_same

      pub best_found : (cs : List Conjunct) (kept : FoundRows) → length (block_leaves block) ≤ 8 → kept.first ≡ left.first
          → kept.combos.items ≡ filter (holds_all asked cs left.first) left.combos.items → kept.tests ≡ left.tests → IsFoundBy asked (Best t groups p) cs before after kept
      best_found cs kept few first combos tests =
          let floor_more = floor-Best asked.tables.now block t groups p in
          let bound_more = bound-Best asked.tables.now block t groups p in
          let width : length (leaves_of t) ≤ 8 = few_leaves block t groups (nodes_of p).tables (best_ranks block t groups p part) few in
          let ins : found.combos.items ≡ given p = by.combos ∙ nothing_asked p in
          let outs : left.combos.items ≡ best (on (seen_from asked.tables.now block (found_in asked p).first) ((grouped_order groups t).better)) (given p) = combos_same ∙ best_given in
          let least : length (given p) ≤ of.added + length (best (on (seen_from asked.tables.now block (found_in asked p).first) ((grouped_order groups t).better)) (given p)) =
          subst (λ n. n ≤ of.added + length (best (on (seen_from asked.tables.now block (found_in asked p).first) ((grouped_order groups t).better)) (given p))) (ap length ins)
          (subst (λ n. length found.combos.items ≤ of.added + n) (ap length outs) of.floor)
          in
          let most : of.added ≤ tests_between groups (seen_from asked.tables.now block (found_in asked p).first) (given p) (best (on (seen_from asked.tables.now block (found_in asked p).first) ((grouped_order groups t).better)) (given p)) =
          subst (λ n. of.added ≤ n)
          ((λ j. tests_between groups (sees asked (by.first j)) (ins j) (outs j))
          ∙ (λ j. tests_between groups (sees_is (found_in asked p).first j) (given p) (best (on (seen_from asked.tables.now block (found_in asked p).first) ((grouped_order groups t).better)) (given p))))
          of.bound
          in
          let low = by.floor in
          let high = by.bound in
          let steps_below = by.least_steps in
          let steps_here = of.least_steps in
          let sum = of.tests in
          record {
            first = first ∙ first_same;
            combos = kept_passing (Best t groups p) cs left.first left.combos.items kept.combos.items first_same combos_same combos;
            floor = omega (arith, low, least, floor_more, sum, tests);
            bound = omega (arith, high, most, bound_more, sum, tests);
            least_steps = omega (arith, steps_below, steps_here, sum, tests);
            most_steps = λ h.
                let small_below : found.tests < last_count = omega (arith, h, sum, tests) in
                let small_here : of.added < last_count = omega (arith, h, sum, tests) in
                let most_below = by.most_steps small_below in
                let most_here = of.most_steps small_here in
                let wide = mul-le-mul_left of.added width in
                omega (arith, most_below, most_here, wide, sum, tests, h);
          }

-- ---- where the parts of a join meet

module _ (asked : Asked) (left right : Plan) (part : IsPartOf asked.block.now (Join left right)) where
  abbrev left_tables : List ℕ
  left_tables = (nodes_of left).tables

  -- a row of a part of a plan has one row for each of its tables
  row_length : (combo : Combo) → Among (found_in asked left).combos combo → length combo.rows ≡ length left_tables
  row_length combo a =
      length-choice (map (λ t. get_or (row_counts asked.tables.now asked.block.now.from) t 0) left_tables) combo.rows (are_rows asked.tables.now asked.block.now left combo a)
      ∙ length-map left_tables (λ t. get_or (row_counts asked.tables.now asked.block.now.from) t 0)

  pub join_ends : (before between after : ℕ) (lefts rights : FoundRows) → IsFoundBy asked left [] before between lefts → IsFoundBy asked right [] between after rights
      → AllEndAt lefts.first rights.first lefts.combos.items
  join_ends before between after lefts rights first second =
      let on_left = left_part asked.block.now left right part in
      let on_right = right_part asked.block.now left right part in
      let left_first : lefts.first ≡ on_left.first = first.first ∙ first_is asked.tables.now asked.block.now left on_left.first on_left.count on_left.tables in
      let right_first : rights.first ≡ on_right.first = second.first ∙ first_is asked.tables.now asked.block.now right on_right.first on_right.count on_right.tables in
      all_from (λ (combo : Combo). lefts.first + length combo.rows ≡ rights.first) lefts.combos.items (λ combo a.
      let given : Among (found_in asked left).combos combo = subst (λ (combos : List Combo). Among combos combo) (first.combos ∙ filter_true (λ c. true) (found_in asked left).combos (λ c. refl)) a in
      let long = row_length combo given in
      let meet = right_begins asked.block.now left right part in
      omega (arith, left_first, right_first, long, meet))
