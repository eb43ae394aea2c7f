-- What is found at a node that is known by its variant.
use Rattle.std.proofs.Common.{◌≡◌, ℕ, ◌+◌, ◌<◌, ◌≤◌, min, true, List, [], map, filter, get_or, length, All, refl, sym, ap, ◌∙◌, subst}
use Rattle.std.specs.List.{range_with_len}
use Rattle.std.proofs.lemmas.List.{length-map}
use Rattle.std.proofs.lemmas.List.FromFn.{fill_by_all}
use Rattle.std.specs.Prelude.{IfOk, Result, Ok, Err}
use Rattle.prefsql_tables.specs.Table.{rows_of}
use Rattle.prefsql_tables.specs.declared.place.ColumnPlace.{ColumnPlace}
use Rattle.prefsql_tables.specs.declared.place.Combo.{Combo}
use Rattle.order_laws.proofs.Members.{filter_true}
use Rattle.pref_terms.specs.Fits.{TermFits}
use Rattle.pref_terms.specs.declared.term.Term.{Term}
use Rattle.query_meaning.specs.Answers.{row_counts}
use Rattle.query_meaning.specs.Asking.{IsAsked, IsRowChoice}
use Rattle.query_meaning.specs.Choices.{IsChoice}
use Rattle.query_meaning.specs.Valid.{block_leaves}
use Rattle.query_meaning.specs.declared.asking.Asked.{Asked}
use Rattle.query_meaning.specs.declared.block.Block.{Block}
use Rattle.query_meaning.specs.declared.block.FromTable.{FromTable}
use Rattle.plan_algebra.specs.Meaning.{pairs_of, plan_rows, single_rows}
use Rattle.plan_algebra.specs.Valid.{IsPlanOf}
use Rattle.plan_algebra.specs.declared.plan.Conjunct.{Conjunct}
use Rattle.plan_algebra.specs.declared.plan.Plan.{Plan, Filter, Join, Best}
use Rattle.plan_algebra.specs.declared.plan.Plan as plan
use Rattle.native_plan.specs.Asking.{CanAskAll, holds_all}
use Rattle.native_plan.specs.Combos.{pair, single}
use Rattle.native_plan.specs.Joining.{AllEndAt}
use Rattle.native_plan.specs.Finding.{IsBestOf, IsFoundBy, IsPartOf, StandsOver, last_count}
use Rattle.native_plan.specs.declared.finding.FoundRows.{FoundRows}
use Rattle.native_plan.proofs.Arms.{all_from, best_askable, best_found, best_judged, filter_askable, filter_found, join_askable, join_ends, join_found, scan_askable, scan_found, scan_there}
use Rattle.native_plan.proofs.Parts.{below_best, below_filter, filter_stands, left_part, right_part}
use Rattle.native_plan.proofs.Rows.{are_rows}

-- ---- a variant, by other names of its parts

pub filter_is : (whole below given : Plan) (cs read : List Conjunct) → whole ≡ Filter cs below → read ≡ cs → given ≡ below → whole ≡ Filter read given
filter_is whole below given cs read is read_is given_is = is ∙ (λ j. Filter (sym read_is j) (sym given_is j))

pub join_is : (whole left right first second : Plan) → whole ≡ Join left right → first ≡ left → second ≡ right → whole ≡ Join first second
join_is whole left right first second is first_is second_is = is ∙ (λ j. Join (sym first_is j) (sym second_is j))

pub best_is : (whole below given : Plan) (t : Term) (groups read : List ColumnPlace) → whole ≡ Best t groups below → read ≡ groups → given ≡ below → whole ≡ Best t read given
best_is whole below given t groups read is read_is given_is = is ∙ (λ j. Best t (sym read_is j) (sym given_is j))

-- ---- what is below a part of a plan

module _ (block : Block) (whole : Plan) (part : IsPartOf block whole) where
  pub part_of_filter : (cs : List Conjunct) (p : Plan) → whole ≡ Filter cs p → IsPartOf block p
  part_of_filter cs p is = below_filter block cs p (subst (IsPartOf block) is part)

  pub stands_of_filter : (cs : List Conjunct) (p : Plan) → whole ≡ Filter cs p → All (StandsOver block p) cs
  stands_of_filter cs p is = filter_stands block cs p (subst (IsPartOf block) is part)

  pub first_of_join : (l r : Plan) → whole ≡ Join l r → IsPartOf block l
  first_of_join l r is = left_part block l r (subst (IsPartOf block) is part)

  pub second_of_join : (l r : Plan) → whole ≡ Join l r → IsPartOf block r
  second_of_join l r is = right_part block l r (subst (IsPartOf block) is part)

  pub part_of_best : (t : Term) (groups : List ColumnPlace) (p : Plan) → whole ≡ Best t groups p → IsPartOf block p
  part_of_best t groups p is = below_best block t groups p (subst (IsPartOf block) is part)

-- each row of the left part of a join ends where those of the right part begin
pub ends_of_join : (asked : Asked) (whole : Plan) (part : IsPartOf asked.block.now whole) (l r : Plan) → whole ≡ Join l r → (before between after : ℕ) (lefts rights : FoundRows)
    → IsFoundBy asked l [] before between lefts → IsFoundBy asked r [] between after rights → AllEndAt lefts.first rights.first lefts.combos.items
ends_of_join asked whole part l r same = join_ends asked l r (subst (IsPartOf asked.block.now) same part)

-- ---- what can be asked, and what is found

module _ {E : Type 0} where
  each_ok : (r : Result FoundRows E) (P Q R S : FoundRows → Type 0) → ((found : FoundRows) → P found → Q found → R found → S found) → IfOk r P → IfOk r Q → IfOk r R → IfOk r S
  each_ok (Ok found) P Q R S all first second third = all found first second third
  each_ok (Err e) P Q R S all first second third = tt

module _ (asked : Asked) (is : IsAsked asked) (whole : Plan) (part : IsPartOf asked.block.now whole) (cs : List Conjunct) (stands : All (StandsOver asked.block.now whole) cs) where
  abbrev block : Block
  block = asked.block.now

  abbrev rows_at : ℕ → ℕ
  rows_at t = get_or (row_counts asked.tables.now block.from) t 0

  -- the part and its conditions at its variant
  part_at : (p : Plan) → whole ≡ p → IsPartOf block p
  part_at p same = subst (IsPartOf block) same part

  stands_at : (p : Plan) → whole ≡ p → All (StandsOver block p) cs
  stands_at p same = subst (λ (q : Plan). All (StandsOver block q) cs) same stands

  pub there_of_scan : (t : ℕ) → whole ≡ plan.Scan t → t < length block.from
  there_of_scan t same = scan_there asked is t (part_at (plan.Scan t) same)

  pub askable_of_scan : (t : ℕ) → whole ≡ plan.Scan t → (row : ℕ) → row < rows_at t → CanAskAll asked cs t (single row)
  askable_of_scan t same = scan_askable asked is t (part_at (plan.Scan t) same) cs (stands_at (plan.Scan t) same)

  pub askable_of_filter : (given : List Conjunct) (p : Plan) → whole ≡ Filter given p → (before after : ℕ) (found : FoundRows) → IsFoundBy asked p given before after found
      → All (CanAskAll asked cs found.first) found.combos.items
  askable_of_filter given p same = filter_askable asked is given p (part_at (Filter given p) same) cs (stands_at (Filter given p) same)

  pub askable_of_join : (l r : Plan) → whole ≡ Join l r → (before between after : ℕ) (lefts rights : FoundRows) → IsFoundBy asked l [] before between lefts → IsFoundBy asked r [] between after rights
      → All (λ a. All (λ b. CanAskAll asked cs lefts.first (pair a b)) rights.combos.items) lefts.combos.items
  askable_of_join l r same = join_askable asked is l r (part_at (Join l r) same) cs (stands_at (Join l r) same)

  pub judged_of_best : (t : Term) (groups : List ColumnPlace) (p : Plan) → whole ≡ Best t groups p → (before after : ℕ) (found : FoundRows) → IsFoundBy asked p [] before after found
      → All (λ (combo : Combo). TermFits asked.tables.now asked.from.now found.first combo.rows t groups) found.combos.items
  judged_of_best t groups p same = best_judged asked is t groups p (part_at (Best t groups p) same)

  pub askable_of_best : (t : Term) (groups : List ColumnPlace) (p : Plan) → whole ≡ Best t groups p → (before between after : ℕ) (found left : FoundRows) → IsFoundBy asked p [] before between found
      → IsBestOf asked t groups between after found left → All (CanAskAll asked cs left.first) left.combos.items
  askable_of_best t groups p same before between after found left by of = best_askable asked is t groups p (part_at (Best t groups p) same) before between after found left by of cs (stands_at (Best t groups p) same)

  module _ {E : Type 0} (r : Result FoundRows E) where
    -- by the name of the plan
    named : (p : Plan) (before after : ℕ) → whole ≡ p → IfOk r (IsFoundBy asked p cs before after) → IfOk r (IsFoundBy asked whole cs before after)
    named p before after same = subst (λ (q : Plan). IfOk r (IsFoundBy asked q cs before after)) (sym same)

    pub found_of_scan : (t steps : ℕ) → whole ≡ plan.Scan t → IfOk r (λ found. found.first ≡ t)
        → IfOk r (λ found. found.combos.items ≡ filter (holds_all asked cs t) (single_rows (rows_at t)))
        → IfOk r (λ found. found.tests ≡ 0) → IfOk r (IsFoundBy asked whole cs steps steps)
    found_of_scan t steps same first combos tests =
        named (plan.Scan t) steps steps same (each_ok r _ _ _ _ (λ found one two three. scan_found asked is t (part_at (plan.Scan t) same) cs steps found one two three) first combos tests)

    pub found_of_filter : (given : List Conjunct) (p : Plan) → whole ≡ Filter given p → (before after : ℕ) (found : FoundRows) → IsFoundBy asked p given before after found
        → IfOk r (λ left. left.first ≡ found.first)
        → IfOk r (λ left. left.combos.items ≡ filter (holds_all asked cs found.first) found.combos.items)
        → IfOk r (λ left. left.tests ≡ found.tests) → IfOk r (IsFoundBy asked whole cs before after)
    found_of_filter given p same before after found by first combos tests =
        named (Filter given p) before after same (each_ok r _ _ _ _ (λ left one two three. filter_found asked is given p cs before after found left by one two three) first combos tests)

    pub found_of_join : (p q : Plan) → whole ≡ Join p q → (before between after : ℕ) (lefts rights : FoundRows) → IsFoundBy asked p [] before between lefts → IsFoundBy asked q [] between after rights
        → IfOk r (λ found. found.first ≡ lefts.first)
        → IfOk r (λ found. found.combos.items ≡ filter (holds_all asked cs lefts.first) (pairs_of lefts.combos.items rights.combos.items))
        → IfOk r (λ found. found.tests ≡ min (lefts.tests + rights.tests) last_count) → IfOk r (IsFoundBy asked whole cs before after)
    found_of_join p q same before between after lefts rights by_left by_right first combos tests =
        named (Join p q) before after same (each_ok r _ _ _ _ (λ found one two three. join_found asked is p q cs before between after lefts rights found by_left by_right one two three) first combos tests)

    pub found_of_best : length (block_leaves block) ≤ 8 → (t : Term) (groups : List ColumnPlace) (p : Plan) → whole ≡ Best t groups p → (before between after : ℕ) (found left : FoundRows)
        → IsFoundBy asked p [] before between found → IsBestOf asked t groups between after found left
        → IfOk r (λ kept. kept.first ≡ left.first)
        → IfOk r (λ kept. kept.combos.items ≡ filter (holds_all asked cs left.first) left.combos.items)
        → IfOk r (λ kept. kept.tests ≡ left.tests) → IfOk r (IsFoundBy asked whole cs before after)
    found_of_best few t groups p same before between after found left by of first combos tests =
        named (Best t groups p) before after same
        (each_ok r _ _ _ _ (λ kept one two three. best_found asked is t groups p (part_at (Best t groups p) same) before between after found left by of cs kept few one two three) first combos tests)

-- ---- the whole plan

module _ (asked : Asked) (whole : Plan) (planned : IsPlanOf asked.block.now whole) (before after : ℕ) (found : FoundRows) (by : IsFoundBy asked whole [] before after found) where
  -- nothing more is asked of what it gives
  pub given_by_plan : found.combos.items ≡ plan_rows asked.tables.now asked.block.now whole
  given_by_plan = by.combos ∙ filter_true (λ combo. true) (plan_rows asked.tables.now asked.block.now whole) (λ combo. refl)

  -- each FROM table has its rows
  all_counted : row_counts asked.tables.now asked.block.now.from
      ≡ map (λ t. get_or (row_counts asked.tables.now asked.block.now.from) t 0) (range_with_len 0 (length asked.block.now.from))
  all_counted =
      fill_by_all (λ t. get_or (row_counts asked.tables.now asked.block.now.from) t 0) (row_counts asked.tables.now asked.block.now.from) (length asked.block.now.from) 0
      (length-map asked.block.now.from (λ (table : FromTable). length (rows_of asked.tables.now table.index))) (λ k small. refl)

  -- what it gives has a row of each FROM table
  pub chosen_by_plan : All (IsRowChoice asked) found.combos.items
  chosen_by_plan =
      subst (All (IsRowChoice asked)) (sym given_by_plan)
      (all_from (IsRowChoice asked) (plan_rows asked.tables.now asked.block.now whole) (λ combo a.
      subst (λ (limits : List ℕ). IsChoice limits combo.rows)
      (ap (map (λ t. get_or (row_counts asked.tables.now asked.block.now.from) t 0)) planned.tables ∙ sym all_counted)
      (are_rows asked.tables.now asked.block.now whole combo a)))
