-- What the plan of each stage means: the kept rows of the block.
use Rattle.std.proofs.Common.{◌≡◌, ℕ, Bool, true, false, not, nat_eq, cond, ◌&&◌, if◌then◌else◌, Option, Some, None, List, [], ◌∷◌, length, get_or, filter, refl, sym, ap, ◌∙◌, inl, inr, ⊎_elim, subst, arith}
use Rattle.std.specs.Prelude.{All}
use Rattle.std.specs.List.{list_all, range_with_len}
use Rattle.std.specs.Ordering.{on}
use Rattle.std.proofs.lemmas.Bool.{and_parts, or_left}
use Rattle.std.proofs.lemmas.List.Elements.{All-cons, All-nil}
use Rattle.std.proofs.lemmas.List.Folds.{list_all-append}
use Rattle.prefsql_tables.specs.Sight.{Sight}
use Rattle.prefsql_tables.specs.Table.{Tables}
use Rattle.prefsql_tables.specs.declared.place.ColumnPlace.{ColumnPlace}
use Rattle.prefsql_tables.specs.declared.place.Combo.{Combo}
use Rattle.order_laws.specs.Best.{best, IsKeptUpwardsAmong}
use Rattle.order_laws.proofs.BestLaws.{IsOrderAmong, filter-best}
use Rattle.order_laws.proofs.Grouped.{grouped_lawful}
use Rattle.order_laws.proofs.Members.{Among, all_at, all_from, among_back, among_either, among_front, among_kept, among_map, filter_filter, filter_same, filter_true}
use Rattle.plan_algebra.specs.Conjuncts.{cond_of, onlys, wheres}
use Rattle.plan_algebra.specs.Meaning.{Found, all_hold, found_by, holds_at, plan_rows, seen_from, single_rows}
use Rattle.plan_laws.proofs.Homes.{AreOfTables, all_pass, found-low, own_test}
use Rattle.plan_laws.proofs.Joins.{found-Best, found-Scan, found-filtered, passed}
use Rattle.plan_laws.proofs.Prefilter.{best_before, is_best_row, low_combos, passes_before, scan_rows}
use Rattle.plan_laws.proofs.Sinks.{sinks_up}
use Rattle.plan_laws.proofs.Splits.{IsOrderLawful, best_cascade, bests_by}
use Rattle.plan_laws.proofs.ValidReads.{condition_read, leaf_trivial, only_told, onlys_pass, reads_places, wheres_pass}
use Rattle.plan_stages.specs.Placing.{at_join, at_scan}
use Rattle.plan_stages.specs.Separation.{cascade_of}
use Rattle.plan_stages.specs.Sinking.{is_sunk, lowered, sinks, staying, sunk}
use Rattle.plan_stages.specs.Stages.{best_above, best_scan, bests_above, block_plan, cascade_above, filtered, filtered_scan, first_plan, joined, joined_best, joined_low, joins_of, only_plan, prefilter_plan, table_groups, table_term, where_plan}
use Rattle.pref_terms.proofs.CascadeLaws.{parts-Leaf, parts-Pareto, parts-Prior, parts-Dual}
use Rattle.pref_terms.specs.Cascades.{parts_of}
use Rattle.query_meaning.specs.Valid.{IsValidBlock}
use Rattle.pref_terms.specs.declared.term.Leaf.{Leaf}
use Rattle.pref_terms.specs.declared.term.Term.{Term, Pareto, Prior, Dual}
use Rattle.pref_terms.specs.declared.term.Term as term
use Rattle.pref_terms.specs.BoundLaws.{same_group-equivalence}
use Rattle.pref_terms.specs.Equations.{leaves_of-Prior}
use Rattle.pref_terms.specs.Fits.{IsTrivialIfExplicit}
use Rattle.pref_terms.specs.Induction.{term_induction}
use Rattle.pref_terms.specs.TermLaws.{term_lawful}
use Rattle.pref_terms.specs.Terms.{grouped_order, is_same_group, key_order, leaves_of, order_of}
use Rattle.query_meaning.specs.Answers.{best_by, combinations, kept_rows, row_counts}
use Rattle.query_meaning.specs.declared.block.Block.{Block}
use Rattle.plan_algebra.specs.declared.plan.Conjunct.{Conjunct}
use Rattle.plan_algebra.specs.declared.plan.Conjunct.TheVariants as conjunct
use Rattle.plan_algebra.specs.declared.plan.Plan.{Plan}
use Rattle.plan_algebra.specs.declared.plan.Plan as plan

pub all_of : {X : Type 0} (P : X → Type 0) (xs : List X) → ((x : X) → Among xs x → P x) → All P xs
all_of P [] each = All-nil P
all_of P (x ∷ xs) each = All-cons P x xs (each x (inl refl)) (all_of P xs (λ y a. each y (inr a)))

-- the leaves of a part are the term's
part_leaves : (t part : Term) → Among (parts_of t) part → (leaf : Leaf) → Among (leaves_of part) leaf → Among (leaves_of t) leaf
part_leaves = term_induction (λ t. (part : Term) → Among (parts_of t) part → (leaf : Leaf) → Among (leaves_of part) leaf → Among (leaves_of t) leaf)
    (λ l part a leaf there. the_one (term.Leaf l) part (subst (λ (ps : List Term). Among ps part) (parts-Leaf l) a) leaf there)
    (λ p q first second part a leaf there. the_one (Pareto p q) part (subst (λ (ps : List Term). Among ps part) (parts-Pareto p q) a) leaf there)
    (λ p q first second part a leaf there.
    subst (λ (ls : List Leaf). Among ls leaf) (sym (leaves_of-Prior p q))
    (⊎_elim (λ b. among_front (leaves_of p) (leaves_of q) leaf (first part b leaf there)) (λ b. among_back (leaves_of p) (leaves_of q) leaf (second part b leaf there))
    (among_either (parts_of p) (parts_of q) part (subst (λ (ps : List Term). Among ps part) (parts-Prior p q) a))))
    (λ p inner part a leaf there. the_one (Dual p) part (subst (λ (ps : List Term). Among ps part) (parts-Dual p) a) leaf there)
  where
    the_one : (t part : Term) → Among (t ∷ []) part → (leaf : Leaf) → Among (leaves_of part) leaf → Among (leaves_of t) leaf
    the_one t part (inl e) leaf there = subst (λ (u : Term). Among (leaves_of u) leaf) (sym e) there
    the_one t part (inr a) leaf there = absurd a

module _ (tables : Tables) (block : Block) (is : IsValidBlock block) where
  abbrev see : Combo → Sight
  see = seen_from tables block 0

  abbrev all : List Combo
  all = combinations tables block.from

  -- ---- the preference above some combinations

  abbrev best_of : List Combo → List Combo
  best_of combos = best_by block.term block.groups see combos

  found-best : (t : Option Term) (groups : List ColumnPlace) (below : Plan) → found_by tables block (best_above t groups below) ≡ record { first = (found_by tables block below).first; combos = best_by t groups (seen_from tables block (found_by tables block below).first) (found_by tables block below).combos }
  found-best None groups below = refl
  found-best (Some t) groups below = found-Best tables block t groups below

  -- conditions and the preference above combinations of all tables
  on_top : (stay : List Conjunct) (below : Plan) (combos : List Combo) → found_by tables block below ≡ record { first = 0; combos = combos }
      → plan_rows tables block (filtered stay (best_above block.term block.groups below)) ≡ filter (λ c. all_hold block stay (see c)) (best_of combos)
  on_top stay below combos found =
      ap (λ (f : Found). f.combos) (found-filtered tables block stay (best_above block.term block.groups below)
      ∙ ap (passed tables block stay) (found-best block.term block.groups below
      ∙ (λ j. record { first = (found j).first; combos = best_by block.term block.groups (seen_from tables block (found j).first) (found j).combos })))

  kept_is : filter (λ c. all_hold block (onlys block) (see c)) (best_of (filter (λ c. all_hold block (wheres block) (see c)) all)) ≡ kept_rows tables block
  kept_is =
      (λ j. filter (λ c. onlys_pass (see c) block j) (best_of (filter (λ c. wheres_pass (see c) block j) all)))

  -- ---- stages 0 and 1

  no_more : (conjuncts : List Conjunct) (t : ℕ) → filter (λ q. all_hold block (at_scan block conjuncts t) (seen_from tables block t q)) (single_rows (get_or (row_counts tables block.from) t 0))
      ≡ filter (own_test tables block conjuncts (λ k q. true) t) (single_rows (get_or (row_counts tables block.from) t 0))
  no_more conjuncts t = filter_same _ _ (single_rows (get_or (row_counts tables block.from) t 0)) (λ q there. and_true (all_hold block (at_scan block conjuncts t) (seen_from tables block t q)))
    where
      and_true : (b : Bool) → b ≡ (b && true)
      and_true true = refl
      and_true false = refl

  of_all : (conjuncts : List Conjunct) → AreOfTables block conjuncts
  of_all conjuncts = record {
    some = (let some = is.some_from in omega (arith, some));
    each = λ d there p a. (condition_read block is d p a).table;
  }

  pass_all : (b : Bool) (n : ℕ) (c : Combo) → (b && list_all (λ t. true) (range_with_len 0 n)) ≡ b
  pass_all b n c = ap (λ more. b && more) (all_from (λ t. true) (range_with_len 0 n) (λ t there. refl)) ∙ and_true b
    where
      and_true : (b : Bool) → (b && true) ≡ b
      and_true true = refl
      and_true false = refl

  -- the tables joined with conditions at their lowest nodes
  pub found-joined_low : (conjuncts : List Conjunct) → found_by tables block (joined_low block conjuncts) ≡ record { first = 0; combos = filter (λ c. all_hold block conjuncts (see c)) all }
  found-joined_low conjuncts =
      found-low tables block conjuncts (λ k q. true) (of_all conjuncts) (filtered_scan block conjuncts)
      (λ t small.
      found-filtered tables block (at_scan block conjuncts t) (plan.Scan t)
      ∙ ap (passed tables block (at_scan block conjuncts t)) (found-Scan tables block t)
      ∙ (λ j. record { first = t; combos = no_more conjuncts t j }))
      ∙ (λ j. record { first = 0; combos = filter_same _ (λ c. all_hold block conjuncts (see c)) all (λ c there. pass_all (all_hold block conjuncts (see c)) (length block.from) c) j })

  -- with no condition all combinations
  none_at : (t : ℕ) → at_join block [] t ≡ []
  none_at t = refl

  found-plain : found_by tables block (joined plan.Scan (λ table. []) (joins_of block)) ≡ record { first = 0; combos = all }
  found-plain = found-joined_low [] ∙ (λ j. record { first = 0; combos = filter_true (λ c. true) all (λ c. refl) j })

  pub first_means : plan_rows tables block (first_plan block) ≡ kept_rows tables block
  unfolding first_plan
  first_means =
      on_top (onlys block) (filtered (wheres block) (joined plan.Scan (λ table. []) (joins_of block))) (filter (λ c. all_hold block (wheres block) (see c)) all)
      (found-filtered tables block (wheres block) (joined plan.Scan (λ table. []) (joins_of block)) ∙ ap (passed tables block (wheres block)) found-plain)
      ∙ kept_is

  pub where_means : plan_rows tables block (where_plan block) ≡ kept_rows tables block
  unfolding where_plan
  where_means = on_top (onlys block) (joined_low block (wheres block)) (filter (λ c. all_hold block (wheres block) (see c)) all) (found-joined_low (wheres block)) ∙ kept_is

  -- ---- stage 2

  put : (p : Conjunct → Bool) (d : Conjunct) (xs ys : List Conjunct) (b : Bool)
      → (list_all p (cond b (d ∷ xs) xs) && list_all p (cond (not b) (d ∷ ys) ys)) ≡ (p d && (list_all p xs && list_all p ys))
  put p d xs ys true = and_and (p d) (list_all p xs) (list_all p ys)
    where
      and_and : (a b c : Bool) → ((a && b) && c) ≡ (a && (b && c))
      and_and true b c = refl
      and_and false b c = refl
  put p d xs ys false = and_swap (list_all p xs) (p d) (list_all p ys)
    where
      and_swap : (a b c : Bool) → (a && (b && c)) ≡ (b && (a && c))
      and_swap true b c = refl
      and_swap false true c = refl
      and_swap false false c = refl

  parted : (p q : Conjunct → Bool) (ds : List Conjunct) → (list_all p (filter q ds) && list_all p (filter (λ d. not (q d)) ds)) ≡ list_all p ds
  parted p q [] = refl
  parted p q (d ∷ ds) = put p d (filter q ds) (filter (λ e. not (q e)) ds) (q d) ∙ ap (λ b. p d && b) (parted p q ds)

  -- sunk and staying conditions together are all of BUT ONLY
  sunk_and_staying : (s : Sight) → (all_hold block (sunk block) s && all_hold block (staying block) s) ≡ all_hold block (onlys block) s
  sunk_and_staying s = parted (holds_at block s) (is_sunk block) (onlys block)

  abbrev asks : List Conjunct → Combo → Bool
  asks conjuncts c = all_hold block conjuncts (see c)

  -- the lowered conditions are those of WHERE and the sunk ones
  low_is : filter (asks (lowered block)) all ≡ filter (asks (sunk block)) (filter (asks (wheres block)) all)
  low_is =
      filter_same (asks (lowered block)) (λ c. asks (wheres block) c && asks (sunk block) c) all (λ c there. list_all-append (holds_at block (see c)) (wheres block) (sunk block))
      ∙ sym (filter_filter (asks (sunk block)) (asks (wheres block)) all)

  stay_after_sunk : (xs : List Combo) → filter (asks (staying block)) (filter (asks (sunk block)) xs) ≡ filter (asks (onlys block)) xs
  stay_after_sunk xs =
      filter_filter (asks (staying block)) (asks (sunk block)) xs
      ∙ filter_same (λ c. asks (sunk block) c && asks (staying block) c) (asks (onlys block)) xs (λ c there. sunk_and_staying (see c))

  module _ (t : Term) (term_is : block.term ≡ Some t) where
    -- what is better than a combination that the sunk conditions keep is kept by them
    sunk_upwards : (xs : List Combo) → IsKeptUpwardsAmong xs (on see ((grouped_order block.groups t).better)) (asks (sunk block))
    sunk_upwards xs x y in_x in_y better keeps =
        let both = and_parts (is_same_group block.groups (see y) (see x)) ((order_of t).better (see y) (see x)) better in
        all_from (holds_at block (see y)) (sunk block) (λ d there.
        let kept = among_kept (is_sunk block) (onlys block) d there in
        let found = among_map conjunct.Only (range_with_len 0 (length block.only)) d kept.0 in
        sinks_up t (leaf_trivial block is t term_is) block.groups (see y) (see x) both.0
        (or_left ((order_of t).better (see y) (see x)) ((order_of t).same (see y) (see x)) both.1)
        (cond_of block d)
        (λ c c_is. only_told block is t term_is found.0 c (subst (λ e. cond_of block e ≡ Some c) (sym found.2) c_is))
        (ap (λ o. sinks o block.groups (cond_of block d)) (sym term_is) ∙ kept.1)
        (all_at (holds_at block (see x)) (sunk block) d keeps there))

  only_law : (t : Option Term) → block.term ≡ t → filter (asks (staying block)) (best_by t block.groups see (filter (asks (lowered block)) all)) ≡ filter (asks (onlys block)) (best_by t block.groups see (filter (asks (wheres block)) all))
  only_law None term_is = ap (filter (asks (staying block))) low_is ∙ stay_after_sunk (filter (asks (wheres block)) all)
  only_law (Some t) term_is =
      let better = on see ((grouped_order block.groups t).better) in
      let candidates_are = filter (asks (wheres block)) all in
      ap (λ xs. filter (asks (staying block)) (best better xs)) low_is
      ∙ ap (filter (asks (staying block))) (sym (filter-best better (asks (sunk block)) candidates_are (sunk_upwards t term_is candidates_are)))
      ∙ stay_after_sunk (best better candidates_are)

  pub only_means : plan_rows tables block (only_plan block) ≡ kept_rows tables block
  unfolding only_plan
  only_means =
      on_top (staying block) (joined_low block (lowered block)) (filter (asks (lowered block)) all) (found-joined_low (lowered block))
      ∙ only_law block.term refl
      ∙ kept_is

  -- ---- stage 3

  one_scan : (o : Option Term) (t : ℕ) → best_by o (table_groups block t) (seen_from tables block t) (scan_rows tables block t)
      ≡ filter (λ q. all_hold block (at_scan block (lowered block) t) (seen_from tables block t q) && is_best_row tables block o t q) (single_rows (get_or (row_counts tables block.from) t 0))
  one_scan None t = no_more (lowered block) t
  one_scan (Some left) t =
      filter_filter (is_best_row tables block (Some left) t) (λ q. all_hold block (at_scan block (lowered block) t) (seen_from tables block t q)) (single_rows (get_or (row_counts tables block.from) t 0))

  found-scan : (t : ℕ) → found_by tables block (filtered_scan block (lowered block) t) ≡ record { first = t; combos = scan_rows tables block t }
  found-scan t =
      found-filtered tables block (at_scan block (lowered block) t) (plan.Scan t)
      ∙ ap (passed tables block (at_scan block (lowered block) t)) (found-Scan tables block t)

  found-best_scan : (t : ℕ) → found_by tables block (best_scan block t) ≡ record { first = t; combos = filter (own_test tables block (lowered block) (passes_before tables block block.term) t) (single_rows (get_or (row_counts tables block.from) t 0)) }
  found-best_scan t =
      found-best (table_term block.term t) (table_groups block t) (filtered_scan block (lowered block) t)
      ∙ (λ j. record { first = (found-scan t j).first; combos = best_by (table_term block.term t) (table_groups block t) (seen_from tables block (found-scan t j).first) (found-scan t j).combos })
      ∙ (λ j. record { first = t; combos = one_scan (table_term block.term t) t j })

  abbrev passing_all : Combo → Bool
  passing_all = all_pass tables block (lowered block) (passes_before tables block block.term)

  all_trivial : (t : Term) → ((leaf : Leaf) → Among (leaves_of t) leaf → IsTrivialIfExplicit leaf) → All IsTrivialIfExplicit (leaves_of t)
  all_trivial t each = all_of IsTrivialIfExplicit (leaves_of t) each

  ordered : (t : Term) → block.term ≡ Some t → (xs : List Combo) → IsOrderAmong (on see ((grouped_order block.groups t).better)) xs
  ordered t term_is xs =
      let laws = grouped_lawful (same_group-equivalence block.groups) (term_lawful t (all_trivial t (leaf_trivial block is t term_is))) in
      record {
        irreflexive = λ x a. laws.irreflexive (see x);
        transitive = λ x y z a b c. laws.transitive (see x) (see y) (see z);
      }

  reduced_law : (t : Option Term) → block.term ≡ t → best_by t block.groups see (filter (λ c. asks (lowered block) c && passing_all c) all) ≡ best_by t block.groups see (filter (asks (lowered block)) all)
  reduced_law None term_is =
      filter_same (λ c. asks (lowered block) c && passing_all c) (asks (lowered block)) all (λ c there.
      ap (λ o. asks (lowered block) c && all_pass tables block (lowered block) (passes_before tables block o) c) term_is ∙ pass_all (asks (lowered block) c) (length block.from) c)
  reduced_law (Some t) term_is =
      let better = on see ((grouped_order block.groups t).better) in
      ap (best better) (sym (filter_filter passing_all (asks (lowered block)) all))
      ∙ ap (λ o. best better (filter (all_pass tables block (lowered block) (passes_before tables block o)) (filter (asks (lowered block)) all))) term_is
      ∙ best_before tables block (reads_places block is) t (ordered t term_is (low_combos tables block))

  -- the joined tables give combinations whose best are those of all that pass the lowered conditions
  pub record IsReducedTo (below : Plan) : Type 0 where
    pub combos : List Combo
    pub found : found_by tables block below ≡ record { first = 0; combos = combos }
    pub best : best_of combos ≡ best_of (filter (asks (lowered block)) all)

  reduced_if : (b : Bool) → IsReducedTo (if b then joined_low block (lowered block) else joined (best_scan block) (at_join block (lowered block)) (joins_of block))
  reduced_if true = record { combos = filter (asks (lowered block)) all; found = found-joined_low (lowered block); best = refl }
  reduced_if false = record {
    combos = filter (λ c. asks (lowered block) c && passing_all c) all;
    found = found-low tables block (lowered block) (passes_before tables block block.term) (of_all (lowered block)) (best_scan block) (λ t small. found-best_scan t);
    best = reduced_law block.term refl;
  }

  reduced : IsReducedTo (joined_best block)
  reduced = reduced_if (nat_eq (joins_of block) 0)

  pub prefilter_means : plan_rows tables block (prefilter_plan block) ≡ kept_rows tables block
  unfolding prefilter_plan
  prefilter_means =
      on_top (staying block) (joined_best block) reduced.combos reduced.found
      ∙ ap (filter (asks (staying block))) reduced.best
      ∙ only_law block.term refl
      ∙ kept_is

  -- ---- stage 4

  found-bests : (terms : List Term) (groups : List ColumnPlace) (below : Plan) → found_by tables block (bests_above terms groups below)
      ≡ record { first = (found_by tables block below).first; combos = bests_by (seen_from tables block (found_by tables block below).first) groups terms (found_by tables block below).combos }
  found-bests [] groups below = refl
  found-bests (t ∷ terms) groups below =
      found-bests terms groups (plan.Best t groups below)
      ∙ (λ j. record { first = (found-Best tables block t groups below j).first; combos = bests_by (seen_from tables block (found-Best tables block t groups below j).first) groups terms (found-Best tables block t groups below j).combos })

  cascade_found : (o : Option Term) → block.term ≡ o → (below : Plan) → found_by tables block (cascade_above o block.groups below) ≡ found_by tables block (best_above o block.groups below)
  cascade_found None term_is below = refl
  cascade_found (Some t) term_is below =
      let found = found_by tables block below in
      let lawful : (part : Term) → Among (parts_of t) part → IsOrderLawful (seen_from tables block found.first) block.groups part = λ part a. (key_order part, term_lawful part (all_trivial part (λ leaf there. leaf_trivial block is t term_is leaf (part_leaves t part a leaf there)))) in
      found-bests (cascade_of t) block.groups below
      ∙ (λ j. record { first = found.first; combos = sym (best_cascade (seen_from tables block found.first) block.groups t lawful found.combos) j })
      ∙ sym (found-Best tables block t block.groups below)

  pub block_means : plan_rows tables block (block_plan block) ≡ kept_rows tables block
  unfolding block_plan prefilter_plan
  block_means =
      ap (λ (f : Found). f.combos) (found-filtered tables block (staying block) (cascade_above block.term block.groups (joined_best block))
      ∙ ap (passed tables block (staying block)) (cascade_found block.term refl (joined_best block))
      ∙ sym (found-filtered tables block (staying block) (best_above block.term block.groups (joined_best block))))
      ∙ prefilter_means
