-- What the rules do to a plan, variant by variant.
use Rattle.std.proofs.Common.{◌≡◌, ℕ, Option, Some, None, List, if◌then◌else◌, ap, ◌∙◌}
use Rattle.prefsql_tables.specs.declared.place.ColumnPlace.{ColumnPlace}
use Rattle.pref_terms.specs.declared.term.Term.{Term}
use Rattle.query_meaning.specs.declared.block.Block.{Block}
use Rattle.plan_algebra.specs.declared.plan.Conjunct.{Conjunct}
use Rattle.plan_algebra.specs.declared.plan.Plan.{Plan}
use Rattle.plan_algebra.specs.declared.plan.Plan as plan
use Rattle.plan_stages.specs.Separation.{cascade_of}
use Rattle.plan_stages.specs.Placing.{at_join, at_scan}
use Rattle.plan_rewriting.specs.Rewrites.{is_whole, last_of, last_step, placed, placed_step, prefiltered, prefiltered_step, reduced, split, split_step, table_of, table_step}
use Rattle.plan_stages.specs.Stages.{bests_above, filtered}
use Rattle.plan_algebra.proofs.Induction.{fold-Scan, fold-Filter, fold-Join, fold-Best}

pub last_of-Scan : (t : ℕ) → last_of (plan.Scan t) ≡ t
unfolding last_of
last_of-Scan t = fold-Scan ℕ (last_step) t

pub last-Scan : (p : Plan) (t : ℕ) → p ≡ plan.Scan t → last_of p ≡ t
last-Scan p t is = ap (last_of) is ∙ last_of-Scan t

pub last_of-Filter : (conjuncts : List Conjunct) (below : Plan) → last_of (plan.Filter conjuncts below) ≡ last_of below
unfolding last_of
last_of-Filter conjuncts below = fold-Filter ℕ (last_step) conjuncts below

pub last-Filter : (p : Plan) (conjuncts : List Conjunct) (below : Plan) → p ≡ plan.Filter conjuncts below → last_of p ≡ last_of below
last-Filter p conjuncts below is = ap (last_of) is ∙ last_of-Filter conjuncts below

pub last_of-Join : (left right : Plan) → last_of (plan.Join left right) ≡ last_of right
unfolding last_of
last_of-Join left right = fold-Join ℕ (last_step) left right

pub last-Join : (p : Plan) (left right : Plan) → p ≡ plan.Join left right → last_of p ≡ last_of right
last-Join p left right is = ap (last_of) is ∙ last_of-Join left right

pub last_of-Best : (term : Term) (groups : List ColumnPlace) (below : Plan) → last_of (plan.Best term groups below) ≡ last_of below
unfolding last_of
last_of-Best term groups below = fold-Best ℕ (last_step) term groups below

pub last-Best : (p : Plan) (term : Term) (groups : List ColumnPlace) (below : Plan) → p ≡ plan.Best term groups below → last_of p ≡ last_of below
last-Best p term groups below is = ap (last_of) is ∙ last_of-Best term groups below

pub ruleset last_reads = (last-Scan, last-Filter, last-Join, last-Best)

pub table_of-Scan : (t : ℕ) → table_of (plan.Scan t) ≡ Some t
unfolding table_of
table_of-Scan t = fold-Scan (Option ℕ) (table_step) t

pub table-Scan : (p : Plan) (t : ℕ) → p ≡ plan.Scan t → table_of p ≡ Some t
table-Scan p t is = ap (table_of) is ∙ table_of-Scan t

pub table_of-Filter : (conjuncts : List Conjunct) (below : Plan) → table_of (plan.Filter conjuncts below) ≡ table_of below
unfolding table_of
table_of-Filter conjuncts below = fold-Filter (Option ℕ) (table_step) conjuncts below

pub table-Filter : (p : Plan) (conjuncts : List Conjunct) (below : Plan) → p ≡ plan.Filter conjuncts below → table_of p ≡ table_of below
table-Filter p conjuncts below is = ap (table_of) is ∙ table_of-Filter conjuncts below

pub table_of-Join : (left right : Plan) → table_of (plan.Join left right) ≡ None
unfolding table_of
table_of-Join left right = fold-Join (Option ℕ) (table_step) left right

pub table-Join : (p : Plan) (left right : Plan) → p ≡ plan.Join left right → table_of p ≡ None
table-Join p left right is = ap (table_of) is ∙ table_of-Join left right

pub table_of-Best : (term : Term) (groups : List ColumnPlace) (below : Plan) → table_of (plan.Best term groups below) ≡ table_of below
unfolding table_of
table_of-Best term groups below = fold-Best (Option ℕ) (table_step) term groups below

pub table-Best : (p : Plan) (term : Term) (groups : List ColumnPlace) (below : Plan) → p ≡ plan.Best term groups below → table_of p ≡ table_of below
table-Best p term groups below is = ap (table_of) is ∙ table_of-Best term groups below

pub ruleset table_reads = (table-Scan, table-Filter, table-Join, table-Best)

pub placed_of-Scan : (block : Block) (cs : List Conjunct) (t : ℕ) → placed block cs (plan.Scan t) ≡ filtered (at_scan block cs t) (plan.Scan t)
unfolding placed
placed_of-Scan block cs t = fold-Scan Plan (placed_step block cs) t

pub placed-Scan : (block : Block) (cs : List Conjunct) (p : Plan) (t : ℕ) → p ≡ plan.Scan t → placed block cs p ≡ filtered (at_scan block cs t) (plan.Scan t)
placed-Scan block cs p t is = ap (placed block cs) is ∙ placed_of-Scan block cs t

pub placed_of-Filter : (block : Block) (cs : List Conjunct) (conjuncts : List Conjunct) (below : Plan) → placed block cs (plan.Filter conjuncts below) ≡ placed block cs below
unfolding placed
placed_of-Filter block cs conjuncts below = fold-Filter Plan (placed_step block cs) conjuncts below

pub placed-Filter : (block : Block) (cs : List Conjunct) (p : Plan) (conjuncts : List Conjunct) (below : Plan) → p ≡ plan.Filter conjuncts below → placed block cs p ≡ placed block cs below
placed-Filter block cs p conjuncts below is = ap (placed block cs) is ∙ placed_of-Filter block cs conjuncts below

pub placed_of-Join : (block : Block) (cs : List Conjunct) (left right : Plan) → placed block cs (plan.Join left right) ≡ filtered (at_join block cs (last_of (placed block cs right))) (plan.Join (placed block cs left) (placed block cs right))
unfolding placed
placed_of-Join block cs left right = fold-Join Plan (placed_step block cs) left right

pub placed-Join : (block : Block) (cs : List Conjunct) (p : Plan) (left right : Plan) → p ≡ plan.Join left right → placed block cs p ≡ filtered (at_join block cs (last_of (placed block cs right))) (plan.Join (placed block cs left) (placed block cs right))
placed-Join block cs p left right is = ap (placed block cs) is ∙ placed_of-Join block cs left right

pub placed_of-Best : (block : Block) (cs : List Conjunct) (term : Term) (groups : List ColumnPlace) (below : Plan) → placed block cs (plan.Best term groups below) ≡ plan.Best term groups (placed block cs below)
unfolding placed
placed_of-Best block cs term groups below = fold-Best Plan (placed_step block cs) term groups below

pub placed-Best : (block : Block) (cs : List Conjunct) (p : Plan) (term : Term) (groups : List ColumnPlace) (below : Plan) → p ≡ plan.Best term groups below → placed block cs p ≡ plan.Best term groups (placed block cs below)
placed-Best block cs p term groups below is = ap (placed block cs) is ∙ placed_of-Best block cs term groups below

pub ruleset placed_reads = (placed-Scan, placed-Filter, placed-Join, placed-Best)

pub prefiltered_of-Scan : (block : Block) (t : ℕ) → prefiltered block (plan.Scan t) ≡ plan.Scan t
unfolding prefiltered
prefiltered_of-Scan block t = fold-Scan Plan (prefiltered_step block) t

pub prefiltered-Scan : (block : Block) (p : Plan) (t : ℕ) → p ≡ plan.Scan t → prefiltered block p ≡ plan.Scan t
prefiltered-Scan block p t is = ap (prefiltered block) is ∙ prefiltered_of-Scan block t

pub prefiltered_of-Filter : (block : Block) (conjuncts : List Conjunct) (below : Plan) → prefiltered block (plan.Filter conjuncts below) ≡ plan.Filter conjuncts (prefiltered block below)
unfolding prefiltered
prefiltered_of-Filter block conjuncts below = fold-Filter Plan (prefiltered_step block) conjuncts below

pub prefiltered-Filter : (block : Block) (p : Plan) (conjuncts : List Conjunct) (below : Plan) → p ≡ plan.Filter conjuncts below → prefiltered block p ≡ plan.Filter conjuncts (prefiltered block below)
prefiltered-Filter block p conjuncts below is = ap (prefiltered block) is ∙ prefiltered_of-Filter block conjuncts below

pub prefiltered_of-Join : (block : Block) (left right : Plan) → prefiltered block (plan.Join left right) ≡ plan.Join (reduced block (prefiltered block left)) (reduced block (prefiltered block right))
unfolding prefiltered
prefiltered_of-Join block left right = fold-Join Plan (prefiltered_step block) left right

pub prefiltered-Join : (block : Block) (p : Plan) (left right : Plan) → p ≡ plan.Join left right → prefiltered block p ≡ plan.Join (reduced block (prefiltered block left)) (reduced block (prefiltered block right))
prefiltered-Join block p left right is = ap (prefiltered block) is ∙ prefiltered_of-Join block left right

pub prefiltered_of-Best : (block : Block) (term : Term) (groups : List ColumnPlace) (below : Plan) → prefiltered block (plan.Best term groups below) ≡ plan.Best term groups (prefiltered block below)
unfolding prefiltered
prefiltered_of-Best block term groups below = fold-Best Plan (prefiltered_step block) term groups below

pub prefiltered-Best : (block : Block) (p : Plan) (term : Term) (groups : List ColumnPlace) (below : Plan) → p ≡ plan.Best term groups below → prefiltered block p ≡ plan.Best term groups (prefiltered block below)
prefiltered-Best block p term groups below is = ap (prefiltered block) is ∙ prefiltered_of-Best block term groups below

pub ruleset prefiltered_reads = (prefiltered-Scan, prefiltered-Filter, prefiltered-Join, prefiltered-Best)

pub split_of-Scan : (block : Block) (t : ℕ) → split block (plan.Scan t) ≡ plan.Scan t
unfolding split
split_of-Scan block t = fold-Scan Plan (split_step block) t

pub split-Scan : (block : Block) (p : Plan) (t : ℕ) → p ≡ plan.Scan t → split block p ≡ plan.Scan t
split-Scan block p t is = ap (split block) is ∙ split_of-Scan block t

pub split_of-Filter : (block : Block) (conjuncts : List Conjunct) (below : Plan) → split block (plan.Filter conjuncts below) ≡ plan.Filter conjuncts (split block below)
unfolding split
split_of-Filter block conjuncts below = fold-Filter Plan (split_step block) conjuncts below

pub split-Filter : (block : Block) (p : Plan) (conjuncts : List Conjunct) (below : Plan) → p ≡ plan.Filter conjuncts below → split block p ≡ plan.Filter conjuncts (split block below)
split-Filter block p conjuncts below is = ap (split block) is ∙ split_of-Filter block conjuncts below

pub split_of-Join : (block : Block) (left right : Plan) → split block (plan.Join left right) ≡ plan.Join (split block left) (split block right)
unfolding split
split_of-Join block left right = fold-Join Plan (split_step block) left right

pub split-Join : (block : Block) (p : Plan) (left right : Plan) → p ≡ plan.Join left right → split block p ≡ plan.Join (split block left) (split block right)
split-Join block p left right is = ap (split block) is ∙ split_of-Join block left right

pub split_of-Best : (block : Block) (term : Term) (groups : List ColumnPlace) (below : Plan) → split block (plan.Best term groups below) ≡ (if is_whole block (split block below) then bests_above (cascade_of term) groups (split block below) else plan.Best term groups (split block below))
unfolding split
split_of-Best block term groups below = fold-Best Plan (split_step block) term groups below

pub split-Best : (block : Block) (p : Plan) (term : Term) (groups : List ColumnPlace) (below : Plan) → p ≡ plan.Best term groups below → split block p ≡ (if is_whole block (split block below) then bests_above (cascade_of term) groups (split block below) else plan.Best term groups (split block below))
split-Best block p term groups below is = ap (split block) is ∙ split_of-Best block term groups below

pub ruleset split_reads = (split-Scan, split-Filter, split-Join, split-Best)
