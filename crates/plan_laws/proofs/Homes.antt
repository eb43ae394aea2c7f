-- Conditions at their lowest nodes: what they ask together is what they ask above the joins.
use Rattle.std.proofs.Common.{◌≡◌, ℕ, zero, suc, ◌<◌, ◌≤◌, Bool, true, false, not, max, ◌&&◌, nat_eq, Option, Some, None, List, [], ◌∷◌, length, get_or, map, take, filter, refl, sym, ap, ◌∙◌, inl, inr, ⊎_elim, subst, arith, eqb-true}
use Rattle.std.specs.List.{list_all, range_with_len}
use Rattle.std.specs.Cmp.{nat_eq_equiv}
use Rattle.std.proofs.Math.Nat.{eq-or-lt_of_le, le-max_left, le-max_right}
use Rattle.std.proofs.Math.Seq.{take-length}
use Rattle.std.proofs.lemmas.Bool.{and_from, and_parts, cases_Bool, eqb-false}
use Rattle.prefsql_values.specs.Truth.{is_true}
use Rattle.prefsql_tables.specs.Combos.{combos_of}
use Rattle.prefsql_tables.specs.Sight.{Sight}
use Rattle.prefsql_tables.specs.Table.{Tables}
use Rattle.prefsql_tables.specs.declared.place.ColumnPlace.{ColumnPlace}
use Rattle.prefsql_tables.specs.declared.place.Combo.{Combo}
use Rattle.conditions.proofs.ReadLaws.{Agree, truth_same}
use Rattle.order_laws.proofs.BestLaws.{same_tests}
use Rattle.order_laws.proofs.Members.{Among, all_at, all_from, all_same, among_filter, among_kept, among_range, any_found, filter_same, none_at, range_among}
use Rattle.plan_algebra.specs.Conjuncts.{cond_of, cond_places, places_of}
use Rattle.plan_algebra.specs.Meaning.{all_hold, found_by, holds_at, is_true_at, seen_from, single_rows}
use Rattle.plan_laws.proofs.Combinations.{combos_upto, of_rows, pair, row_at, seen_left, seen_row}
use Rattle.plan_laws.proofs.Joins.{IsReduced, asked_upto, found-joined, joins_hold, length-counts}
use Rattle.plan_stages.specs.Placing.{at_join, at_scan, is_at_join, is_at_scan, is_joint, last_table}
use Rattle.plan_stages.specs.Stages.{joined, joins_of}
use Rattle.conditions.specs.declared.condition.Cond.{Cond}
use Rattle.query_meaning.specs.Answers.{combinations, row_counts}
use Rattle.query_meaning.specs.declared.block.Block.{Block}
use Rattle.plan_algebra.specs.declared.plan.Conjunct.{Conjunct}
use Rattle.plan_algebra.specs.declared.plan.Plan.{Plan}

-- ---- the tables of some columns

pub last_most : (places : List ColumnPlace) (p : ColumnPlace) → Among places p → p.table ≤ last_table places
last_most [] p a = absurd a
last_most (q ∷ places) p (inl e) = subst (λ (r : ColumnPlace). r.table ≤ max q.table (last_table places)) e (le-max_left q.table (last_table places))
last_most (q ∷ places) p (inr a) =
    let more = last_most places p a in
    let right = le-max_right q.table (last_table places) in
    omega (arith, more, right)

max_below : (a b n : ℕ) → a < n → b < n → max a b < n
max_below a b n h k = omega arith

pub last_below : (places : List ColumnPlace) (n : ℕ) → 0 < n → ((p : ColumnPlace) → Among places p → p.table < n) → last_table places < n
last_below [] n some each = some
last_below (q ∷ places) n some each = max_below q.table (last_table places) n (each q (inl refl)) (last_below places n some (λ p a. each p (inr a)))

not_false : (b : Bool) → not b ≡ false → b ≡ true
not_false true h = refl
not_false false h = absurd (cc)

not_true : (b : Bool) → not b ≡ true → b ≡ false
not_true true h = absurd (cc)
not_true false h = refl

-- columns that are not of two tables are of the last one
pub of_last : (places : List ColumnPlace) → is_joint places ≡ false → (p : ColumnPlace) → Among places p → p.table ≡ last_table places
of_last places one p a = eqb-true p.table (last_table places) (not_false _ (none_at (λ (q : ColumnPlace). not (nat_eq q.table (last_table places))) places p one a))

eq_itself : (n : ℕ) → nat_eq n n ≡ true
eq_itself n = nat_eq_equiv.refl n

apart : (m n : ℕ) → m ≤ n → nat_eq m n ≡ false → 0 < n
apart m n h e = ⊎_elim (λ same. absurd (eqb-false m n e same)) (λ less. omega (arith, less)) (eq-or-lt_of_le h)

-- a column of another table stands before the last one
pub some_before : (places : List ColumnPlace) → is_joint places ≡ true → 0 < last_table places
some_before places two =
    let found = any_found (λ (q : ColumnPlace). not (nat_eq q.table (last_table places))) places two in
    apart found.0.table (last_table places) (last_most places found.0 found.1) (not_true _ found.2)

-- ---- what a condition asks of two combinations

module _ (block : Block) (a b : Sight) where
  true_same : (cond : Option Cond) → Agree a b (cond_places cond) → is_true_at a cond ≡ is_true_at b cond
  true_same None same = refl
  true_same (Some cond) same = ap is_true (truth_same a b cond same)

  pub holds_same : (d : Conjunct) → Agree a b (places_of block d) → holds_at block a d ≡ holds_at block b d
  holds_same d same = true_same (cond_of block d) same

-- ---- the tests of joined tables

module _ (own : ℕ → Combo → Bool) (above : ℕ → Combo → Bool) where
  pub asked_own : (n : ℕ) (c : Combo) → asked_upto own above n c ≡ true → (t : ℕ) → t < n → own t (row_at c t) ≡ true
  asked_own zero c h t small = absurd (omega arith)
  asked_own (suc n) c h t small =
      let parts = and_parts (asked_upto own above n c && own n (row_at c n)) (above n c) h in
      let before = and_parts (asked_upto own above n c) (own n (row_at c n)) parts.0 in
      let at_most : t ≤ n = omega (arith, small) in
      elim (eq-or-lt_of_le at_most) [
        | inl is ↦ subst (λ k. own k (row_at c k) ≡ true) (sym is) before.1
        | inr less ↦ asked_own n c before.0 t less
      ]

  pub asked_above : (n : ℕ) (c : Combo) → asked_upto own above n c ≡ true → (t : ℕ) → t < n → above t c ≡ true
  asked_above zero c h t small = absurd (omega arith)
  asked_above (suc n) c h t small =
      let parts = and_parts (asked_upto own above n c && own n (row_at c n)) (above n c) h in
      let before = and_parts (asked_upto own above n c) (own n (row_at c n)) parts.0 in
      let at_most : t ≤ n = omega (arith, small) in
      elim (eq-or-lt_of_le at_most) [
        | inl is ↦ subst (λ k. above k c ≡ true) (sym is) parts.1
        | inr less ↦ asked_above n c before.0 t less
      ]

  pub asked_from : (n : ℕ) (c : Combo) → ((t : ℕ) → t < n → own t (row_at c t) ≡ true) → ((t : ℕ) → t < n → above t c ≡ true) → asked_upto own above n c ≡ true
  asked_from zero c h k = refl
  asked_from (suc n) c h k =
      and_from _ _ (and_from _ _ (asked_from n c (λ t small. h t (omega (arith, small))) (λ t small. k t (omega (arith, small)))) (h n (omega arith))) (k n (omega arith))

-- the columns that the conditions read are of FROM tables
pub record AreOfTables (block : Block) (conjuncts : List Conjunct) : Type 0 where
  pub some : 0 < length block.from
  pub each : (d : Conjunct) → Among conjuncts d → (p : ColumnPlace) → Among (places_of block d) p → p.table < length block.from

module _ (tables : Tables) (block : Block) (conjuncts : List Conjunct) (pre : ℕ → Combo → Bool) where
  -- the conditions at a table's scan, and a further test of its rows
  abbrev pub own_test : ℕ → Combo → Bool
  own_test t q = all_hold block (at_scan block conjuncts t) (seen_from tables block t q) && pre t q

  abbrev joins_test : ℕ → Combo → Bool
  joins_test = joins_hold tables block (at_join block conjuncts)

  -- all further tests of a combination's rows
  abbrev pub all_pass : Combo → Bool
  all_pass c = list_all (λ t. pre t (row_at c t)) (range_with_len 0 (length block.from))

  module _ (of_tables : AreOfTables block conjuncts) where
    at_its_scan : (d : Conjunct) → Among conjuncts d → is_joint (places_of block d) ≡ false → Among (at_scan block conjuncts (last_table (places_of block d))) d
    at_its_scan d there one =
        among_filter (is_at_scan block (last_table (places_of block d))) conjuncts d there
        (and_from _ _ (eq_itself (last_table (places_of block d))) (ap not one))

    at_its_join : (d : Conjunct) → Among conjuncts d → is_joint (places_of block d) ≡ true → Among (at_join block conjuncts (last_table (places_of block d))) d
    at_its_join d there two =
        among_filter (is_at_join block (last_table (places_of block d))) conjuncts d there
        (and_from _ _ (eq_itself (last_table (places_of block d))) two)

    -- a condition at a scan asks the row what it asks the combination
    pub scan_same : (c : Combo) (t : ℕ) (d : Conjunct) → is_at_scan block t d ≡ true → holds_at block (seen_from tables block t (row_at c t)) d ≡ holds_at block (seen_from tables block 0 c) d
    scan_same c t d is =
        let both = and_parts (nat_eq (last_table (places_of block d)) t) (not (is_joint (places_of block d))) is in
        let last : last_table (places_of block d) ≡ t = eqb-true _ _ both.0 in
        holds_same block (seen_from tables block t (row_at c t)) (seen_from tables block 0 c) d
        (record { at = λ p reads. seen_row tables block c t p (of_last (places_of block d) (not_true _ both.1) p reads ∙ last) })

    pub asked_is : (c : Combo) → asked_upto own_test joins_test (length block.from) c ≡ (all_hold block conjuncts (seen_from tables block 0 c) && all_pass c)
    asked_is c =
        let see = seen_from tables block 0 c in
        let n = length block.from in
        same_tests _ _
        (λ h. and_from _ _
        (all_from (holds_at block see) conjuncts (λ d there.
        let t = last_table (places_of block d) in
        let small = last_below (places_of block d) n of_tables.some (of_tables.each d there) in
        elim (cases_Bool (is_joint (places_of block d))) [
          | inl two ↦ all_at (holds_at block see) (at_join block conjuncts t) d (asked_above own_test joins_test n c h t small) (at_its_join d there two)
          | inr one ↦
              let at = at_its_scan d there one in
              sym (scan_same c t d ((among_kept (is_at_scan block t) conjuncts d at).1))
              ∙ all_at (holds_at block (seen_from tables block t (row_at c t))) (at_scan block conjuncts t) d ((and_parts _ _ (asked_own own_test joins_test n c h t small)).0) at
        ]))
        (all_from (λ t. pre t (row_at c t)) (range_with_len 0 n) (λ t there.
        (and_parts _ _ (asked_own own_test joins_test n c h t (omega (arith, (among_range 0 n t there).1)))).1)))
        (λ h.
        let both = and_parts (all_hold block conjuncts see) (all_pass c) h in
        asked_from own_test joins_test n c
        (λ t small. and_from _ _
        (all_from (holds_at block (seen_from tables block t (row_at c t))) (at_scan block conjuncts t) (λ d there.
        let kept = among_kept (is_at_scan block t) conjuncts d there in
        scan_same c t d kept.1 ∙ all_at (holds_at block see) conjuncts d both.0 kept.0))
        (all_at (λ k. pre k (row_at c k)) (range_with_len 0 n) t both.1 (range_among 0 n t (omega arith) (omega (arith, small)))))
        (λ t small. all_from (holds_at block see) (at_join block conjuncts t) (λ d there.
        all_at (holds_at block see) conjuncts d both.0 ((among_kept (is_at_join block t) conjuncts d there).0))))

    -- a condition above a join asks the first part alone what it asks the pair
    join_stable : (t : ℕ) (p q : Combo) → t < length p.rows → joins_test t (pair p q) ≡ joins_test t p
    join_stable t p q small =
        all_same (holds_at block (seen_from tables block 0 (pair p q))) (holds_at block (seen_from tables block 0 p)) (at_join block conjuncts t) (λ d there.
        let both = and_parts (nat_eq (last_table (places_of block d)) t) (is_joint (places_of block d)) ((among_kept (is_at_join block t) conjuncts d there).1) in
        let last : last_table (places_of block d) ≡ t = eqb-true _ _ both.0 in
        holds_same block (seen_from tables block 0 (pair p q)) (seen_from tables block 0 p) d
        (record { at = λ r reads. seen_left tables block p q r (let most = last_most (places_of block d) r reads in omega (arith, most, last, small)) }))

    none_at_first : (c : Combo) → joins_test 0 c ≡ true
    none_at_first c =
        all_from (holds_at block (seen_from tables block 0 c)) (at_join block conjuncts 0) (λ d there.
        let both = and_parts (nat_eq (last_table (places_of block d)) 0) (is_joint (places_of block d)) ((among_kept (is_at_join block 0) conjuncts d there).1) in
        let last : last_table (places_of block d) ≡ 0 = eqb-true _ _ both.0 in
        let later = some_before (places_of block d) both.1 in
        absurd (omega (arith, last, later)))

    -- tables joined so give the combinations that pass all
    pub found-low : (table_plan : ℕ → Plan)
        → ((t : ℕ) → t < length block.from → found_by tables block (table_plan t) ≡ record { first = t; combos = filter (own_test t) (single_rows (get_or (row_counts tables block.from) t 0)) })
        → found_by tables block (joined table_plan (at_join block conjuncts) (joins_of block))
        ≡ record { first = 0; combos = filter (λ c. all_hold block conjuncts (seen_from tables block 0 c) && all_pass c) (combinations tables block.from) }
    found-low table_plan each =
        let n = length block.from in
        let some = of_tables.some in
        let count : suc (joins_of block) ≡ n = omega (arith, some) in
        let is : IsReduced tables block table_plan (at_join block conjuncts) own_test = record { table_plans = each; stable = join_stable; none_first = none_at_first } in
        let counts = row_counts tables block.from in
        let whole : combos_upto counts n ≡ combinations tables block.from =
        ap (λ k. map of_rows (combos_of (take k counts))) (sym (length-counts tables block)) ∙ ap (λ limits. map of_rows (combos_of limits)) (take-length counts) in
        found-joined tables block table_plan (at_join block conjuncts) own_test is (joins_of block) (omega (arith, some))
        ∙ (λ j. record { first = 0; combos = filter (asked_upto own_test joins_test (count j)) (combos_upto counts (count j)) })
        ∙ (λ j. record {
          first = 0;
          combos = (ap (filter (asked_upto own_test joins_test n)) whole
              ∙ filter_same (asked_upto own_test joins_test n) (λ c. all_hold block conjuncts (seen_from tables block 0 c) && all_pass c) (combinations tables block.from) (λ c there. asked_is c)) j;
        })
