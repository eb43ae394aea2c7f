-- The rules lead from each stage to the next.
use Rattle.std.proofs.Common.{◌≡◌, ℕ, zero, suc, Bool, true, false, nat_eq, ◌||◌, if◌then◌else◌, Option, Some, None, List, [], ◌∷◌, refl, sym, ap, ◌∙◌}
use Rattle.std.proofs.Math.Dec.{eqb-suc-zero}
use Rattle.prefsql_tables.specs.declared.place.ColumnPlace.{ColumnPlace}
use Rattle.pref_terms.specs.declared.term.Term.{Term}
use Rattle.query_meaning.specs.declared.block.Block.{Block}
use Rattle.plan_stages.specs.Separation.{cascade_of}
use Rattle.plan_algebra.specs.Conjuncts.{onlys, wheres}
use Rattle.plan_stages.specs.Placing.{at_join, at_scan}
use Rattle.plan_rewriting.specs.Rewrites.{is_none, is_whole, last_of, placed, prefiltered, reduced, reduced_by, split, table_of}
use Rattle.plan_stages.specs.Sinking.{lowered, staying}
use Rattle.plan_stages.specs.Stages.{best_above, best_scan, bests_above, block_plan, cascade_above, filtered, filtered_scan, first_plan, joined, joined_best, joined_low, joins_of, only_plan, prefilter_plan, table_groups, table_term, where_plan}
use Rattle.plan_algebra.specs.declared.plan.Conjunct.{Conjunct}
use Rattle.plan_algebra.specs.declared.plan.Plan.{Plan}
use Rattle.plan_algebra.specs.declared.plan.Plan as plan
use Rattle.plan_rewriting.proofs.PlanReads.{last_of-Scan, last_of-Filter, last_of-Best, table_of-Scan, table_of-Filter, table_of-Join, table_of-Best, placed_of-Scan, placed_of-Filter, placed_of-Join, placed_of-Best, prefiltered_of-Scan, prefiltered_of-Filter, prefiltered_of-Join, prefiltered_of-Best, split_of-Scan, split_of-Filter, split_of-Join, split_of-Best}

-- ---- through a Filter and a Best that may be missing

pub last_of-filtered : (cs : List Conjunct) (p : Plan) → last_of (filtered cs p) ≡ last_of p
last_of-filtered [] p = refl
last_of-filtered (c ∷ cs) p = last_of-Filter (c ∷ cs) p

pub last_of-best_above : (t : Option Term) (groups : List ColumnPlace) (p : Plan) → last_of (best_above t groups p) ≡ last_of p
last_of-best_above None groups p = refl
last_of-best_above (Some t) groups p = last_of-Best t groups p

pub table_of-filtered : (cs : List Conjunct) (p : Plan) → table_of (filtered cs p) ≡ table_of p
table_of-filtered [] p = refl
table_of-filtered (c ∷ cs) p = table_of-Filter (c ∷ cs) p

table_of-best_above : (t : Option Term) (groups : List ColumnPlace) (p : Plan) → table_of (best_above t groups p) ≡ table_of p
table_of-best_above None groups p = refl
table_of-best_above (Some t) groups p = table_of-Best t groups p

module _ (block : Block) (cs : List Conjunct) where
  placed-filtered : (old : List Conjunct) (p : Plan) → placed block cs (filtered old p) ≡ placed block cs p
  placed-filtered [] p = refl
  placed-filtered (c ∷ old) p = placed_of-Filter block cs (c ∷ old) p

  placed-best_above : (t : Option Term) (groups : List ColumnPlace) (p : Plan) → placed block cs (best_above t groups p) ≡ best_above t groups (placed block cs p)
  placed-best_above None groups p = refl
  placed-best_above (Some t) groups p = placed_of-Best block cs t groups p

  -- whatever stood at the scans and the joins, now these stand there
  placed-joined : (table_plan : ℕ → Plan) (old : ℕ → List Conjunct) → ((t : ℕ) → placed block cs (table_plan t) ≡ filtered_scan block cs t) → (k : ℕ)
      → placed block cs (joined table_plan old k) ≡ joined (filtered_scan block cs) (at_join block cs) k
  placed-joined table_plan old each zero = each 0
  placed-joined table_plan old each (suc k) =
      let last : last_of (filtered_scan block cs (suc k)) ≡ suc k = last_of-filtered (at_scan block cs (suc k)) (plan.Scan (suc k)) ∙ last_of-Scan (suc k) in
      placed-filtered (old (suc k)) (plan.Join (joined table_plan old k) (table_plan (suc k)))
      ∙ placed_of-Join block cs (joined table_plan old k) (table_plan (suc k))
      ∙ (λ j. filtered (at_join block cs (last_of (each (suc k) j))) (plan.Join (placed-joined table_plan old each k j) (each (suc k) j)))
      ∙ ap (λ t. filtered (at_join block cs t) (plan.Join (joined (filtered_scan block cs) (at_join block cs) k) (filtered_scan block cs (suc k)))) last

  placed-scan : (t : ℕ) → placed block cs (plan.Scan t) ≡ filtered_scan block cs t
  placed-scan t = placed_of-Scan block cs t

  placed-filtered_scan : (old : List Conjunct) (t : ℕ) → placed block cs (filtered_scan block old t) ≡ filtered_scan block cs t
  placed-filtered_scan old t = placed-filtered (at_scan block old t) (plan.Scan t) ∙ placed-scan t

module _ (block : Block) where
  pub where_from_first : filtered (onlys block) (placed block (wheres block) (first_plan block)) ≡ where_plan block
  unfolding first_plan where_plan
  where_from_first =
      let cs = wheres block in
      let scans = joined plan.Scan (λ table. []) (joins_of block) in
      ap (filtered (onlys block))
      (placed-filtered block cs (onlys block) (best_above block.term block.groups (filtered cs scans))
      ∙ placed-best_above block cs block.term block.groups (filtered cs scans)
      ∙ ap (best_above block.term block.groups) (placed-filtered block cs cs scans ∙ placed-joined block cs plan.Scan (λ table. []) (placed-scan block cs) (joins_of block)))

  pub only_from_where : filtered (staying block) (placed block (lowered block) (where_plan block)) ≡ only_plan block
  unfolding where_plan only_plan
  only_from_where =
      let cs = lowered block in
      ap (filtered (staying block))
      (placed-filtered block cs (onlys block) (best_above block.term block.groups (joined_low block (wheres block)))
      ∙ placed-best_above block cs block.term block.groups (joined_low block (wheres block))
      ∙ ap (best_above block.term block.groups) (placed-joined block cs (filtered_scan block (wheres block)) (at_join block (wheres block)) (placed-filtered_scan block cs (wheres block)) (joins_of block)))

  -- ---- stage 3

  prefiltered-filtered : (cs : List Conjunct) (p : Plan) → prefiltered block (filtered cs p) ≡ filtered cs (prefiltered block p)
  prefiltered-filtered [] p = refl
  prefiltered-filtered (c ∷ cs) p = prefiltered_of-Filter block (c ∷ cs) p

  prefiltered-best_above : (t : Option Term) (groups : List ColumnPlace) (p : Plan) → prefiltered block (best_above t groups p) ≡ best_above t groups (prefiltered block p)
  prefiltered-best_above None groups p = refl
  prefiltered-best_above (Some t) groups p = prefiltered_of-Best block t groups p

  abbrev low : List Conjunct
  low = lowered block

  prefiltered-scan : (t : ℕ) → prefiltered block (filtered_scan block low t) ≡ filtered_scan block low t
  prefiltered-scan t = prefiltered-filtered (at_scan block low t) (plan.Scan t) ∙ ap (filtered (at_scan block low t)) (prefiltered_of-Scan block t)

  table_of-scan : (t : ℕ) → table_of (filtered_scan block low t) ≡ Some t
  table_of-scan t = table_of-filtered (at_scan block low t) (plan.Scan t) ∙ table_of-Scan t

  reduced-scan : (t : ℕ) → reduced block (filtered_scan block low t) ≡ best_scan block t
  reduced-scan t = ap (λ o. reduced_by block o (filtered_scan block low t)) (table_of-scan t)

  table_of-joins : (table_plan : ℕ → Plan) (cs : ℕ → List Conjunct) (k : ℕ) → table_of (joined table_plan cs (suc k)) ≡ None
  table_of-joins table_plan cs k =
      table_of-filtered (cs (suc k)) (plan.Join (joined table_plan cs k) (table_plan (suc k))) ∙ table_of-Join (joined table_plan cs k) (table_plan (suc k))

  abbrev low_joined : ℕ → Plan
  low_joined = joined (filtered_scan block low) (at_join block low)

  abbrev best_joined : ℕ → Plan
  best_joined = joined (best_scan block) (at_join block low)

  abbrev IsReduced : ℕ → Type 0
  IsReduced k = reduced block (prefiltered block (low_joined k)) ≡ best_joined k

  prefiltered_more : (k : ℕ) → IsReduced k → prefiltered block (low_joined (suc k)) ≡ best_joined (suc k)
  prefiltered_more k left =
      let right : reduced block (prefiltered block (filtered_scan block low (suc k))) ≡ best_scan block (suc k) = ap (reduced block) (prefiltered-scan (suc k)) ∙ reduced-scan (suc k) in
      prefiltered-filtered (at_join block low (suc k)) (plan.Join (low_joined k) (filtered_scan block low (suc k)))
      ∙ ap (filtered (at_join block low (suc k))) (prefiltered_of-Join block (low_joined k) (filtered_scan block low (suc k)) ∙ (λ j. plan.Join (left j) (right j)))

  all_reduced : (k : ℕ) → IsReduced k
  all_reduced zero = ap (reduced block) (prefiltered-scan 0) ∙ reduced-scan 0
  all_reduced (suc k) =
      ap (reduced block) (prefiltered_more k (all_reduced k))
      ∙ ap (λ o. reduced_by block o (best_joined (suc k))) (table_of-joins (best_scan block) (at_join block low) k)

  prefiltered_joins : (n : ℕ) → prefiltered block (low_joined n) ≡ (if nat_eq n 0 then low_joined n else best_joined n)
  prefiltered_joins zero = prefiltered-scan 0
  prefiltered_joins (suc k) = prefiltered_more k (all_reduced k) ∙ ap (λ b. if b then low_joined (suc k) else best_joined (suc k)) (sym (eqb-suc-zero k))

  pub prefilter_from_only : prefiltered block (only_plan block) ≡ prefilter_plan block
  unfolding only_plan prefilter_plan
  prefilter_from_only =
      prefiltered-filtered (staying block) (best_above block.term block.groups (joined_low block low))
      ∙ ap (filtered (staying block)) (prefiltered-best_above block.term block.groups (joined_low block low) ∙ ap (best_above block.term block.groups) (prefiltered_joins (joins_of block)))

  -- ---- stage 4

  split-filtered : (cs : List Conjunct) (p : Plan) → split block (filtered cs p) ≡ filtered cs (split block p)
  split-filtered [] p = refl
  split-filtered (c ∷ cs) p = split_of-Filter block (c ∷ cs) p

  split-scan : (t : ℕ) → split block (filtered_scan block low t) ≡ filtered_scan block low t
  split-scan t = split-filtered (at_scan block low t) (plan.Scan t) ∙ ap (filtered (at_scan block low t)) (split_of-Scan block t)

  split-best_scan : nat_eq (joins_of block) 0 ≡ false → (o : Option Term) (groups : List ColumnPlace) (t : ℕ) → split block (best_above o groups (filtered_scan block low t)) ≡ best_above o groups (filtered_scan block low t)
  split-best_scan some None groups t = split-scan t
  split-best_scan some (Some left) groups t =
      let scan = filtered_scan block low t in
      let part : is_whole block scan ≡ false = (λ j. some j || is_none (table_of-scan t j)) in
      split_of-Best block left groups scan
      ∙ ap (λ p. if is_whole block p then bests_above (cascade_of left) groups p else plan.Best left groups p) (split-scan t)
      ∙ ap (λ b. if b then bests_above (cascade_of left) groups scan else plan.Best left groups scan) part

  split-joined : (table_plan : ℕ → Plan) (cs : ℕ → List Conjunct) → ((t : ℕ) → split block (table_plan t) ≡ table_plan t) → (k : ℕ) → split block (joined table_plan cs k) ≡ joined table_plan cs k
  split-joined table_plan cs each zero = each 0
  split-joined table_plan cs each (suc k) =
      split-filtered (cs (suc k)) (plan.Join (joined table_plan cs k) (table_plan (suc k)))
      ∙ ap (filtered (cs (suc k))) (split_of-Join block (joined table_plan cs k) (table_plan (suc k)) ∙ (λ j. plan.Join (split-joined table_plan cs each k j) (each (suc k) j)))

  split-if : (b : Bool) → nat_eq (joins_of block) 0 ≡ b → split block (if b then low_joined (joins_of block) else best_joined (joins_of block)) ≡ (if b then low_joined (joins_of block) else best_joined (joins_of block))
  split-if true is = split-joined (filtered_scan block low) (at_join block low) split-scan (joins_of block)
  split-if false is = split-joined (best_scan block) (at_join block low) (λ t. split-best_scan is (table_term block.term t) (table_groups block t) t) (joins_of block)

  split_joins : split block (joined_best block) ≡ joined_best block
  split_joins = split-if (nat_eq (joins_of block) 0) refl

  whole_at : (n : ℕ) → (nat_eq n 0 || is_none (table_of (if nat_eq n 0 then low_joined n else best_joined n))) ≡ true
  whole_at zero = refl
  whole_at (suc k) =
      ap (λ b. b || is_none (table_of (if b then low_joined (suc k) else best_joined (suc k)))) (eqb-suc-zero k)
      ∙ ap is_none (table_of-joins (best_scan block) (at_join block low) k)

  all_whole : is_whole block (joined_best block) ≡ true
  all_whole = whole_at (joins_of block)

  split-best_above : (o : Option Term) (groups : List ColumnPlace) → split block (best_above o groups (joined_best block)) ≡ cascade_above o groups (joined_best block)
  split-best_above None groups = split_joins
  split-best_above (Some t) groups =
      split_of-Best block t groups (joined_best block)
      ∙ ap (λ p. if is_whole block p then bests_above (cascade_of t) groups p else plan.Best t groups p) split_joins
      ∙ ap (λ b. if b then bests_above (cascade_of t) groups (joined_best block) else plan.Best t groups (joined_best block)) all_whole

  pub block_from_prefilter : split block (prefilter_plan block) ≡ block_plan block
  unfolding prefilter_plan block_plan
  block_from_prefilter =
      split-filtered (staying block) (best_above block.term block.groups (joined_best block))
      ∙ ap (filtered (staying block)) (split-best_above block.term block.groups)
