-- What tables give that are joined one after the other, each reduced by a test of its rows, with conditions above the joins.
use Rattle.std.proofs.Common.{◌≡◌, ℕ, zero, suc, ◌<◌, ◌≤◌, Bool, true, false, cond, ◌&&◌, List, [], ◌∷◌, ◌++◌, length, get_or, map, filter, refl, sym, ap, ◌∙◌, inl, inr, subst, arith}
use Rattle.std.specs.List.{range_with_len}
use Rattle.std.specs.Ordering.{on}
use Rattle.std.proofs.lemmas.List.{length-map, length-take-le}
use Rattle.std.proofs.lemmas.List.Elements.{filter-append}
use Rattle.prefsql_tables.specs.Table.{Tables, rows_of}
use Rattle.prefsql_tables.specs.declared.place.ColumnPlace.{ColumnPlace}
use Rattle.prefsql_tables.specs.declared.place.Combo.{Combo}
use Rattle.order_laws.specs.Best.{best}
use Rattle.order_laws.proofs.Members.{Among, among_map, filter_filter, filter_true}
use Rattle.plan_algebra.proofs.Induction.{fold-Best, fold-Filter, fold-Join, fold-Scan}
use Rattle.plan_algebra.specs.Meaning.{Found, all_hold, found_by, pairs_of, plan_step, seen_from, single_rows}
use Rattle.plan_laws.proofs.Combinations.{combos_more, combos_upto, pair, pairs_alone, row_at, row_at_last, row_at_left, single, upto_length}
use Rattle.plan_stages.specs.Stages.{filtered, joined}
use Rattle.pref_terms.specs.declared.term.Term.{Term}
use Rattle.pref_terms.specs.Terms.{grouped_order}
use Rattle.query_meaning.specs.Answers.{row_counts}
use Rattle.query_meaning.specs.declared.block.Block.{Block}
use Rattle.query_meaning.specs.declared.block.FromTable.{FromTable}
use Rattle.plan_algebra.specs.declared.plan.Conjunct.{Conjunct}
use Rattle.plan_algebra.specs.declared.plan.Plan.{Plan}
use Rattle.plan_algebra.specs.declared.plan.Plan as plan

-- ---- what each node gives

module _ (tables : Tables) (block : Block) where
  pub found-Scan : (table : ℕ) → found_by tables block (plan.Scan table) ≡ record { first = table; combos = single_rows (get_or (row_counts tables block.from) table 0) }
  unfolding found_by
  found-Scan table = fold-Scan Found (plan_step tables block) table

  pub found-Join : (left right : Plan) → found_by tables block (plan.Join left right) ≡ record { first = (found_by tables block left).first; combos = pairs_of (found_by tables block left).combos (found_by tables block right).combos }
  unfolding found_by
  found-Join left right = fold-Join Found (plan_step tables block) left right

  pub found-Best : (term : Term) (groups : List ColumnPlace) (below : Plan) → found_by tables block (plan.Best term groups below) ≡ record { first = (found_by tables block below).first; combos = best (on (seen_from tables block (found_by tables block below).first) ((grouped_order groups term).better)) (found_by tables block below).combos }
  unfolding found_by
  found-Best term groups below = fold-Best Found (plan_step tables block) term groups below

  pub found-Filter : (conjuncts : List Conjunct) (below : Plan) → found_by tables block (plan.Filter conjuncts below) ≡ record { first = (found_by tables block below).first; combos = filter (λ combo. all_hold block conjuncts (seen_from tables block (found_by tables block below).first combo)) (found_by tables block below).combos }
  unfolding found_by
  found-Filter conjuncts below = fold-Filter Found (plan_step tables block) conjuncts below

  -- conditions above a plan
  abbrev pub passed : List Conjunct → Found → Found
  passed conjuncts found = record { first = found.first; combos = filter (λ combo. all_hold block conjuncts (seen_from tables block found.first combo)) found.combos }

  pub found-filtered : (conjuncts : List Conjunct) (below : Plan) → found_by tables block (filtered conjuncts below) ≡ passed conjuncts (found_by tables block below)
  found-filtered [] below =
      let found = found_by tables block below in
      λ j. record { first = found.first; combos = sym (filter_true (λ combo. true) found.combos (λ combo. refl)) j }
  found-filtered (c ∷ conjuncts) below = found-Filter (c ∷ conjuncts) below

-- ---- filters of pairs

module _ (K R W : Combo → Bool) where
  one_left : (p : Combo) (qs : List Combo) (b : Bool) → ((q : Combo) → Among qs q → W (pair p q) ≡ (b && R q)) → filter W (map (pair p) qs) ≡ cond b (map (pair p) (filter R qs)) []
  one_left p [] true h = refl
  one_left p [] false h = refl
  one_left p (q ∷ qs) true h =
      ap (λ c. cond c (pair p q ∷ filter W (map (pair p) qs)) (filter W (map (pair p) qs))) (h q (inl refl))
      ∙ ap (λ more. cond (R q) (pair p q ∷ more) more) (one_left p qs true (λ r a. h r (inr a)))
      ∙ kept (R q)
    where
      kept : (c : Bool) → cond c (pair p q ∷ map (pair p) (filter R qs)) (map (pair p) (filter R qs)) ≡ map (pair p) (cond c (q ∷ filter R qs) (filter R qs))
      kept true = refl
      kept false = refl
  one_left p (q ∷ qs) false h =
      ap (λ c. cond c (pair p q ∷ filter W (map (pair p) qs)) (filter W (map (pair p) qs))) (h q (inl refl))
      ∙ one_left p qs false (λ r a. h r (inr a))

  -- a test that asks each part by itself goes below the pairs
  pub filter-pairs : (ps qs : List Combo) → ((p q : Combo) → Among ps p → Among qs q → W (pair p q) ≡ (K p && R q)) → filter W (pairs_of ps qs) ≡ pairs_of (filter K ps) (filter R qs)
  filter-pairs [] qs h = refl
  filter-pairs (p ∷ ps) qs h =
      filter-append W (map (pair p) qs) (pairs_of ps qs)
      ∙ ap (λ front. front ++ filter W (pairs_of ps qs)) (one_left p qs (K p) (λ q a. h p q (inl refl) a))
      ∙ ap (λ more. cond (K p) (map (pair p) (filter R qs)) [] ++ more) (filter-pairs ps qs (λ r q a b. h r q (inr a) b))
      ∙ put (K p)
    where
      put : (b : Bool) → cond b (map (pair p) (filter R qs)) [] ++ pairs_of (filter K ps) (filter R qs) ≡ pairs_of (cond b (p ∷ filter K ps) (filter K ps)) (filter R qs)
      put true = refl
      put false = refl

-- ---- tables joined one after the other

pub length-counts : (tables : Tables) (block : Block) → length (row_counts tables block.from) ≡ length block.from
length-counts tables block = length-map block.from (λ (table : FromTable). length (rows_of tables table.index))

module _ (own : ℕ → Combo → Bool) (above : ℕ → Combo → Bool) where
  -- what the first tables ask of a combination: the test of each table's row, and the one above each join
  abbrev pub asked_upto : ℕ → Combo → Bool
  asked_upto zero c = true
  asked_upto (suc k) c = (asked_upto k c && own k (row_at c k)) && above k c

  abbrev pub IsStable : Type 0
  IsStable = (t : ℕ) (p q : Combo) → t < length p.rows → above t (pair p q) ≡ above t p

  asked_left : IsStable → (k : ℕ) (p q : Combo) → k ≤ length p.rows → asked_upto k (pair p q) ≡ asked_upto k p
  asked_left stable zero p q h = refl
  asked_left stable (suc k) p q h =
      let small : k < length p.rows = omega (arith, h) in
      λ j. (asked_left stable k p q (omega (arith, h)) j && own k (row_at_left p q k small j)) && stable k p q small j

  module _ (counts : List ℕ) (stable : IsStable) where
    asked_pair : (k : ℕ) → k < length counts → (p q : Combo) → Among (combos_upto counts k) p → Among (single_rows (get_or counts k 0)) q
        → (asked_upto k (pair p q) && own k (row_at (pair p q) k)) ≡ (asked_upto k p && own k q)
    asked_pair k small p q a b =
        let long : length p.rows ≡ k = upto_length counts k p a ∙ length-take-le k counts (omega (arith, small)) in
        let found = among_map single (range_with_len 0 (get_or counts k 0)) q b in
        let last : row_at (pair p q) k ≡ q = subst (λ (r : Combo). row_at (pair p r) k ≡ r) found.2 (row_at_last p found.0 k long) in
        λ j. asked_left stable k p q (omega (arith, long)) j && own k (last j)

    pub one_more : (k : ℕ) → k < length counts
        → filter (above k) (pairs_of (filter (asked_upto k) (combos_upto counts k)) (filter (own k) (single_rows (get_or counts k 0))))
        ≡ filter (asked_upto (suc k)) (combos_upto counts (suc k))
    one_more k small =
        let both = λ (c : Combo). asked_upto k c && own k (row_at c k) in
        let all = pairs_of (combos_upto counts k) (single_rows (get_or counts k 0)) in
        ap (filter (above k)) (sym (filter-pairs (asked_upto k) (own k) both (combos_upto counts k) (single_rows (get_or counts k 0)) (asked_pair k small)))
        ∙ filter_filter (above k) both all
        ∙ ap (filter (asked_upto (suc k))) (sym (combos_more counts k small))

-- whether the conditions above a join hold
abbrev pub joins_hold : Tables → Block → (ℕ → List Conjunct) → ℕ → Combo → Bool
joins_hold tables block conjuncts t c = all_hold block (conjuncts t) (seen_from tables block 0 c)

module _ (tables : Tables) (block : Block) (table_plan : ℕ → Plan) (conjuncts : ℕ → List Conjunct) (own : ℕ → Combo → Bool) where
  abbrev counts : List ℕ
  counts = row_counts tables block.from

  abbrev above : ℕ → Combo → Bool
  above = joins_hold tables block conjuncts

  pub record IsReduced : Type 0 where
    pub table_plans : (t : ℕ) → t < length block.from → found_by tables block (table_plan t) ≡ record { first = t; combos = filter (own t) (single_rows (get_or (row_counts tables block.from) t 0)) }
    pub stable : IsStable own above
    pub none_first : (c : Combo) → above 0 c ≡ true

  module _ (is : IsReduced) where
    first_alone : 0 < length counts → filter (own 0) (single_rows (get_or counts 0 0)) ≡ filter (asked_upto own above 1) (combos_upto counts 1)
    first_alone some =
        sym (pairs_alone (filter (own 0) (single_rows (get_or counts 0 0))))
        ∙ sym (filter_true (above 0) _ is.none_first)
        ∙ one_more own above counts is.stable 0 some

    pub found-joined : (k : ℕ) → k < length block.from → found_by tables block (joined table_plan conjuncts k) ≡ record { first = 0; combos = filter (asked_upto own above (suc k)) (combos_upto counts (suc k)) }
    found-joined zero some =
        let there : 0 < length counts = omega (arith, some, length-counts tables block) in
        is.table_plans 0 some ∙ (λ j. record { first = 0; combos = first_alone there j })
    found-joined (suc k) small =
        let there : suc k < length counts = omega (arith, small, length-counts tables block) in
        let left = joined table_plan conjuncts k in
        let right = table_plan (suc k) in
        found-filtered tables block (conjuncts (suc k)) (plan.Join left right)
        ∙ ap (passed tables block (conjuncts (suc k))) (found-Join tables block left right)
        ∙ (λ j. passed tables block (conjuncts (suc k)) (record { first = (found-joined k (omega (arith, small)) j).first; combos = pairs_of (found-joined k (omega (arith, small)) j).combos (is.table_plans (suc k) small j).combos }))
        ∙ (λ j. record { first = 0; combos = one_more own above counts is.stable (suc k) there j })
