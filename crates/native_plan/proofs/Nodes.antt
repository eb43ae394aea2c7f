-- What each node of a plan gives, stands for and counts.
use Rattle.std.proofs.Common.{◌≡◌, ℕ, ◌+◌, ◌-◌, List, ◌∷◌, [], length, get_or, sym, ap, ◌∙◌}
use Rattle.std.specs.Ordering.{on}
use Rattle.prefsql_tables.specs.Table.{Tables}
use Rattle.prefsql_tables.specs.declared.place.ColumnPlace.{ColumnPlace}
use Rattle.prefsql_tables.specs.declared.place.Combo.{Combo}
use Rattle.order_laws.specs.Best.{best}
use Rattle.pref_terms.specs.Terms.{grouped_order}
use Rattle.pref_terms.specs.declared.term.Term.{Term}
use Rattle.query_meaning.specs.Answers.{row_counts}
use Rattle.query_meaning.specs.declared.block.Block.{Block}
use Rattle.plan_algebra.specs.Meaning.{Found, found_by, plan_step, seen_from, single_rows}
use Rattle.plan_algebra.specs.Tests.{Tested, tested_by, tested_step, tests_between}
use Rattle.plan_algebra.specs.Valid.{Nodes, nodes_of, nodes_step}
use Rattle.plan_algebra.specs.declared.plan.Conjunct.{Conjunct}
use Rattle.plan_algebra.specs.declared.plan.Plan.{Plan, Filter, Join, Best}
use Rattle.plan_algebra.specs.declared.plan.Plan as plan
use Rattle.plan_algebra.specs.declared.plan.Plan.TheOpen.{Plan-F}
use Rattle.plan_algebra.proofs.Induction.{fold-Scan, fold-Filter, fold-Join, fold-Best, plan_induction}

pub nodes-Scan : (t : ℕ) → nodes_of (plan.Scan t) ≡ record { tables = t ∷ []; conjuncts = []; bests = [] }
unfolding nodes_of
nodes-Scan t = fold-Scan Nodes nodes_step t

pub nodes-Filter : (cs : List Conjunct) (p : Plan) → nodes_of (Filter cs p) ≡ nodes_step (Plan-F.Filter cs (nodes_of p))
unfolding nodes_of
nodes-Filter cs p = fold-Filter Nodes nodes_step cs p

pub nodes-Join : (l r : Plan) → nodes_of (Join l r) ≡ nodes_step (Plan-F.Join (nodes_of l) (nodes_of r))
unfolding nodes_of
nodes-Join l r = fold-Join Nodes nodes_step l r

pub nodes-Best : (t : Term) (groups : List ColumnPlace) (p : Plan) → nodes_of (Best t groups p) ≡ nodes_step (Plan-F.Best t groups (nodes_of p))
unfolding nodes_of
nodes-Best t groups p = fold-Best Nodes nodes_step t groups p

module _ (tables : Tables) (block : Block) where
  pub found-Scan : (table : ℕ) → found_by tables block (plan.Scan table) ≡ record { first = table; combos = single_rows (get_or (row_counts tables block.from) table 0) }
  unfolding found_by
  found-Scan table = fold-Scan Found (plan_step tables block) table

  pub found-Filter : (cs : List Conjunct) (below : Plan) → found_by tables block (Filter cs below) ≡ plan_step tables block (Plan-F.Filter cs (found_by tables block below))
  unfolding found_by
  found-Filter cs below = fold-Filter Found (plan_step tables block) cs below

  pub found-Join : (left right : Plan) → found_by tables block (Join left right) ≡ plan_step tables block (Plan-F.Join (found_by tables block left) (found_by tables block right))
  unfolding found_by
  found-Join left right = fold-Join Found (plan_step tables block) left right

  pub found-Best : (term : Term) (groups : List ColumnPlace) (below : Plan) → found_by tables block (Best term groups below) ≡ plan_step tables block (Plan-F.Best term groups (found_by tables block below))
  unfolding found_by
  found-Best term groups below = fold-Best Found (plan_step tables block) term groups below

  tested-Scan : (table : ℕ) → tested_by tables block (plan.Scan table) ≡ tested_step tables block (Plan-F.Scan table)
  unfolding tested_by
  tested-Scan table = fold-Scan Tested (tested_step tables block) table

  tested-Filter : (cs : List Conjunct) (below : Plan) → tested_by tables block (Filter cs below) ≡ tested_step tables block (Plan-F.Filter cs (tested_by tables block below))
  unfolding tested_by
  tested-Filter cs below = fold-Filter Tested (tested_step tables block) cs below

  tested-Join : (left right : Plan) → tested_by tables block (Join left right) ≡ tested_step tables block (Plan-F.Join (tested_by tables block left) (tested_by tables block right))
  unfolding tested_by
  tested-Join left right = fold-Join Tested (tested_step tables block) left right

  tested-Best : (term : Term) (groups : List ColumnPlace) (below : Plan) → tested_by tables block (Best term groups below) ≡ tested_step tables block (Plan-F.Best term groups (tested_by tables block below))
  unfolding tested_by
  tested-Best term groups below = fold-Best Tested (tested_step tables block) term groups below

  abbrev FoundAlike : Plan → Type 0
  FoundAlike p = (tested_by tables block p).found ≡ found_by tables block p

  -- the counts are of what the plan gives
  tested_found : (p : Plan) → FoundAlike p
  tested_found =
      plan_induction FoundAlike
      (λ table. ap (λ (t : Tested). t.found) (tested-Scan table) ∙ sym (found-Scan table))
      (λ cs below same. ap (λ (t : Tested). t.found) (tested-Filter cs below) ∙ (λ j. plan_step tables block (Plan-F.Filter cs (same j))) ∙ sym (found-Filter cs below))
      (λ left right first second. ap (λ (t : Tested). t.found) (tested-Join left right) ∙ (λ j. plan_step tables block (Plan-F.Join (first j) (second j))) ∙ sym (found-Join left right))
      (λ term groups below same. ap (λ (t : Tested). t.found) (tested-Best term groups below) ∙ (λ j. plan_step tables block (Plan-F.Best term groups (same j))) ∙ sym (found-Best term groups below))

  pub floor-Scan : (table : ℕ) → (tested_by tables block (plan.Scan table)).floor ≡ 0
  floor-Scan table = ap (λ (t : Tested). t.floor) (tested-Scan table)

  pub floor-Filter : (cs : List Conjunct) (below : Plan) → (tested_by tables block (Filter cs below)).floor ≡ (tested_by tables block below).floor
  floor-Filter cs below = ap (λ (t : Tested). t.floor) (tested-Filter cs below)

  pub bound-Filter : (cs : List Conjunct) (below : Plan) → (tested_by tables block (Filter cs below)).bound ≡ (tested_by tables block below).bound
  bound-Filter cs below = ap (λ (t : Tested). t.bound) (tested-Filter cs below)

  pub floor-Join : (left right : Plan) → (tested_by tables block (Join left right)).floor ≡ (tested_by tables block left).floor + (tested_by tables block right).floor
  floor-Join left right = ap (λ (t : Tested). t.floor) (tested-Join left right)

  pub bound-Join : (left right : Plan) → (tested_by tables block (Join left right)).bound ≡ (tested_by tables block left).bound + (tested_by tables block right).bound
  bound-Join left right = ap (λ (t : Tested). t.bound) (tested-Join left right)

  -- the rows that a Best leaves of others
  abbrev pub best_left : Term → List ColumnPlace → Found → List Combo
  best_left term groups found = best (on (seen_from tables block found.first) ((grouped_order groups term).better)) found.combos

  pub floor-Best : (term : Term) (groups : List ColumnPlace) (below : Plan)
      → (tested_by tables block (Best term groups below)).floor
      ≡ (tested_by tables block below).floor + (length (found_by tables block below).combos - length (best_left term groups (found_by tables block below)))
  floor-Best term groups below =
      ap (λ (t : Tested). t.floor) (tested-Best term groups below)
      ∙ (λ j. (tested_by tables block below).floor + (length (tested_found below j).combos - length (best_left term groups (tested_found below j))))

  pub bound-Best : (term : Term) (groups : List ColumnPlace) (below : Plan)
      → (tested_by tables block (Best term groups below)).bound
      ≡ (tested_by tables block below).bound
      + tests_between groups (seen_from tables block (found_by tables block below).first) (found_by tables block below).combos (best_left term groups (found_by tables block below))
  bound-Best term groups below =
      ap (λ (t : Tested). t.bound) (tested-Best term groups below)
      ∙ (λ j. (tested_by tables block below).bound + tests_between groups (seen_from tables block (tested_found below j).first) (tested_found below j).combos (best_left term groups (tested_found below j)))
