-- A row that another row of its table betters, within the columns that the rest reads, stands in no best combination.
use Rattle.std.proofs.Common.{◌≡◌, ℕ, ◌-◌, ◌<◌, Bool, true, false, not, nat_eq, Option, Some, None, List, ◌++◌, length, get_or, set, filter, refl, sym, ap, ◌∙◌, inl, inr, subst, arith, eqb-true}
use Rattle.std.specs.List.{range_with_len}
use Rattle.std.specs.Ordering.{on}
use Rattle.std.specs.Cmp.{nat_eq_equiv}
use Rattle.std.proofs.lemmas.Bool.{and_from, and_parts, cases_Bool, eqb-false}
use Rattle.std.proofs.lemmas.List.{get_or-set_other, get_or-set_same}
use Rattle.prefsql_values.specs.Value.{value_eq}
use Rattle.prefsql_values.proofs.ValueEq.{value_eq-Decides}
use Rattle.prefsql_tables.specs.Combos.{combos_of}
use Rattle.prefsql_tables.specs.Sight.{Sight}
use Rattle.prefsql_tables.specs.Table.{Tables, cell_at}
use Rattle.prefsql_tables.specs.declared.place.ColumnPlace.{ColumnPlace}
use Rattle.prefsql_tables.specs.declared.place.Combo.{Combo}
use Rattle.order_laws.specs.Best.{best, is_unbettered}
use Rattle.order_laws.proofs.BestLaws.{IsOrderAmong, best-filter, unbettered_at, unbettered_from}
use Rattle.order_laws.proofs.Members.{Among, all_at, all_from, among_back, among_filter, among_flat_mapped, among_front, among_kept, among_map, among_mapped, among_range, any_from, range_among}
use Rattle.plan_algebra.specs.Conjuncts.{places_of}
use Rattle.plan_algebra.specs.Meaning.{all_hold, holds_at, seen_from, single_rows}
use Rattle.plan_laws.proofs.Combinations.{among_choice, choice_among, choice_set, of_rows, row_at, seen_row, single}
use Rattle.plan_laws.proofs.Homes.{AreOfTables, all_pass, holds_same, of_last, scan_same}
use Rattle.plan_laws.proofs.Joins.{length-counts}
use Rattle.plan_laws.proofs.Sinks.{group_agrees}
use Rattle.plan_stages.specs.Placing.{at_scan, is_at_scan, is_joint, last_table}
use Rattle.plan_stages.specs.Sinking.{is_place, is_place_in, lowered}
use Rattle.plan_stages.specs.Stages.{joint_places, table_groups, table_places, table_term}
use Rattle.pref_terms.proofs.LeafReads.{standing_same}
use Rattle.pref_terms.proofs.Lifted.{left_better}
use Rattle.query_meaning.proofs.ChoiceLemmas.{length-choice}
use Rattle.pref_terms.specs.declared.term.Leaf.{Leaf}
use Rattle.pref_terms.specs.declared.term.Term.{Term}
use Rattle.pref_terms.specs.Parts.{is_on, leaves_left, restricted}
use Rattle.pref_terms.specs.Terms.{grouped_order, is_same_group, leaves_of, order_of}
use Rattle.pref_terms.proofs.PartReads.{leaves-restricted}
use Rattle.query_meaning.specs.Answers.{combinations, indexes_of, row_counts}
use Rattle.query_meaning.specs.BlockFits.{IsPlace, columns_from}
use Rattle.query_meaning.specs.Choices.{IsChoice}
use Rattle.query_meaning.specs.declared.block.Block.{Block}
use Rattle.plan_algebra.specs.declared.plan.Conjunct.{Conjunct}

-- the columns that the block's lowered conditions and its groups read are there
pub record ReadsPlaces (block : Block) : Type 0 where
  pub some : 0 < length block.from
  pub conditions : (d : Conjunct) → Among (lowered block) d → (p : ColumnPlace) → Among (places_of block d) p → IsPlace block.from p
  pub groups : (p : ColumnPlace) → Among block.groups p → IsPlace block.from p

pub of_tables : (block : Block) → ReadsPlaces block → AreOfTables block (lowered block)
of_tables block reads = record { some = reads.some; each = λ d there p in_d. (reads.conditions d there p in_d).table }

eq_itself : (n : ℕ) → nat_eq n n ≡ true
eq_itself n = nat_eq_equiv.refl n

module _ (tables : Tables) (block : Block) where
  -- the rows of a table for which its conditions hold
  abbrev pub scan_rows : ℕ → List Combo
  scan_rows t = filter (λ q. all_hold block (at_scan block (lowered block) t) (seen_from tables block t q)) (single_rows (get_or (row_counts tables block.from) t 0))

  -- whether no such row is better by the table's part of a preference
  abbrev pub is_best_row : Option Term → ℕ → Combo → Bool
  is_best_row None t q = true
  is_best_row (Some left) t q = is_unbettered (on (seen_from tables block t) ((grouped_order (table_groups block t) left).better)) (scan_rows t) q

  abbrev pub passes_before : Option Term → ℕ → Combo → Bool
  passes_before term t q = is_best_row (table_term term t) t q

  abbrev pub low_combos : List Combo
  low_combos = filter (λ c. all_hold block (lowered block) (seen_from tables block 0 c)) (combinations tables block.from)

  module _ (reads : ReadsPlaces block) where
    -- a column of the table among those that the rest reads is one of its groups
    in_groups : (t : ℕ) (p : ColumnPlace) → p.table ≡ t → IsPlace block.from p → Among (block.groups ++ joint_places block (lowered block)) p → Among (table_groups block t) p
    in_groups t p is there read =
        let place : ColumnPlace = record { table = t; column = p.column } in
        let same : place ≡ p = (λ j. record { table = sym is j; column = p.column }) in
        let small : p.column < length (columns_from block.from t) = subst (λ k. p.column < length (columns_from block.from k)) is there.column in
        let listed = among_mapped (λ column. record { table = t; column = column }) (range_with_len 0 (length (columns_from block.from t))) p.column (range_among 0 (length (columns_from block.from t)) p.column (omega arith) (omega (arith, small))) in
        among_filter (is_place_in (block.groups ++ joint_places block (lowered block))) (table_places block t) p
        (subst (λ (q : ColumnPlace). Among (table_places block t) q) same listed)
        (any_from (is_place p) (block.groups ++ joint_places block (lowered block)) p read (and_from _ _ (eq_itself p.table) (eq_itself p.column)))

    module _ (x : Combo) (in_x : Among low_combos x) (t row : ℕ) (t_small : t < length block.from) (in_scan : Among (scan_rows t) (single row)) (row_small : row < get_or (row_counts tables block.from) t 0)
        (one_group : is_same_group (table_groups block t) (seen_from tables block t (single row)) (seen_from tables block t (row_at x t)) ≡ true) where
      abbrev other : Combo
      other = of_rows (set x.rows t row)

      abbrev see : Combo → Sight
      see = seen_from tables block 0

      chosen : (rows : List ℕ) × Among (combos_of (row_counts tables block.from)) rows × (of_rows rows ≡ x)
      chosen = among_map of_rows (combos_of (row_counts tables block.from)) x ((among_kept (λ c. all_hold block (lowered block) (see c)) (combinations tables block.from) x in_x).0)

      choice : IsChoice (row_counts tables block.from) x.rows
      choice = subst (λ (c : Combo). IsChoice (row_counts tables block.from) c.rows) chosen.2 (among_choice (row_counts tables block.from) chosen.0 chosen.1)

      long : length x.rows ≡ length block.from
      long = length-choice (row_counts tables block.from) x.rows choice ∙ length-counts tables block

      row_is : row_at other t ≡ single row
      row_is = ap single (get_or-set_same x.rows t row 0 (omega (arith, long, t_small)))

      elsewhere : (p : ColumnPlace) → nat_eq p.table t ≡ false → see other p ≡ see x p
      elsewhere p not_t =
          ap (λ r. cell_at tables (get_or (indexes_of block.from) p.table 0) r p.column)
          (get_or-set_other x.rows t (p.table - 0) row 0 (λ same. eqb-false p.table t not_t (let first : p.table - 0 ≡ p.table = omega arith in sym first ∙ same)))

      here : (p : ColumnPlace) → p.table ≡ t → see other p ≡ seen_from tables block t (single row) p
      here p is = sym (seen_row tables block other t p is) ∙ ap (λ (c : Combo). seen_from tables block t c p) row_is

      -- in the group columns of the table they show the same
      grouped : (p : ColumnPlace) → p.table ≡ t → Among (table_groups block t) p → see other p ≡ see x p
      grouped p is there =
          here p is
          ∙ (group_agrees (table_groups block t) (seen_from tables block t (single row)) (seen_from tables block t (row_at x t)) one_group).at p there
          ∙ seen_row tables block x t p is

      read_alike : (p : ColumnPlace) → IsPlace block.from p → Among (block.groups ++ joint_places block (lowered block)) p → see other p ≡ see x p
      read_alike p there read =
          elim (cases_Bool (nat_eq p.table t)) [
            | inl is ↦ grouped p (eqb-true p.table t is) (in_groups t p (eqb-true p.table t is) there read)
            | inr is ↦ elsewhere p is
          ]

      all_true : (d : Conjunct) → Among (lowered block) d → holds_at block (see x) d ≡ true
      all_true d there = all_at (holds_at block (see x)) (lowered block) d ((among_kept (λ c. all_hold block (lowered block) (see c)) (combinations tables block.from) x in_x).1) there

      joint_holds : (d : Conjunct) → Among (lowered block) d → is_joint (places_of block d) ≡ true → holds_at block (see other) d ≡ true
      joint_holds d there two =
          holds_same block (see other) (see x) d (record {
            at = λ p in_d.
                read_alike p (reads.conditions d there p in_d)
                (among_back block.groups (joint_places block (lowered block)) p
                (among_flat_mapped (places_of block) (filter (λ c. is_joint (places_of block c)) (lowered block)) d p (among_filter (λ c. is_joint (places_of block c)) (lowered block) d there two) in_d));
          }) ∙ all_true d there

      single_holds : (d : Conjunct) → Among (lowered block) d → is_joint (places_of block d) ≡ false → (b : Bool) → nat_eq (last_table (places_of block d)) t ≡ b → holds_at block (see other) d ≡ true
      single_holds d there one true is =
          let at = among_filter (is_at_scan block t) (lowered block) d there (and_from _ _ is (ap not one)) in
          sym (scan_same tables block (lowered block) (λ k q. true) (of_tables block reads) other t d ((among_kept (is_at_scan block t) (lowered block) d at).1))
          ∙ ap (λ (c : Combo). holds_at block (seen_from tables block t c) d) row_is
          ∙ all_at (holds_at block (seen_from tables block t (single row))) (at_scan block (lowered block) t) d ((among_kept _ (single_rows (get_or (row_counts tables block.from) t 0)) (single row) in_scan).1) at
      single_holds d there one false is =
          holds_same block (see other) (see x) d (record { at = λ p in_d. elsewhere p (ap (λ k. nat_eq k t) (of_last (places_of block d) one p in_d) ∙ is) }) ∙ all_true d there

      -- with the other row the combination passes all conditions too
      pub other_there : Among low_combos other
      other_there =
          among_filter (λ c. all_hold block (lowered block) (see c)) (combinations tables block.from) other
          (among_mapped of_rows (combos_of (row_counts tables block.from)) (set x.rows t row) (choice_among (row_counts tables block.from) (set x.rows t row) (choice_set (row_counts tables block.from) x.rows t row choice row_small)))
          (all_from (holds_at block (see other)) (lowered block) (λ d there.
          elim (cases_Bool (is_joint (places_of block d))) [
            | inl two ↦ joint_holds d there two
            | inr one ↦ single_holds d there one (nat_eq (last_table (places_of block d)) t) refl
          ]))

      -- it is of the same group
      pub other_group : is_same_group block.groups (see other) (see x) ≡ true
      other_group =
          all_from (λ place. value_eq (see other place) (see x place)) block.groups (λ p there.
          (value_eq-Decides (see other p) (see x p)).1 (read_alike p (reads.groups p there) (among_front block.groups (joint_places block (lowered block)) p there)))

      -- and better, where its row is better by the table's part of the term
      pub other_better : (term left : Term) → restricted t term ≡ Some left → (order_of left).better (seen_from tables block t (single row)) (seen_from tables block t (row_at x t)) ≡ true → (order_of term).better (see other) (see x) ≡ true
      other_better term left is better =
          let on_t : (leaf : Leaf) → Among (leaves_of left) leaf → leaf.place.table ≡ t =
          λ leaf there.
          let in_filter = subst (λ (ls : List Leaf). Among ls leaf) (sym (ap leaves_left is) ∙ leaves-restricted t term) there in
          eqb-true leaf.place.table t ((among_kept (is_on t) (leaves_of term) leaf in_filter).1)
          in
          left_better t (see other) (see x) term left (record { at = λ leaf there off. elsewhere leaf.place off }) is
          ((standing_same (see other) (see x) (seen_from tables block t (single row)) (seen_from tables block t (row_at x t)) left
          (record { at = λ leaf there. here leaf.place (on_t leaf there) })
          (record { at = λ leaf there. sym (seen_row tables block x t leaf.place (on_t leaf there)) })).better ∙ better)

    module _ (term : Term) (order : IsOrderAmong (on (seen_from tables block 0) ((grouped_order block.groups term).better)) low_combos) where
      abbrev better_by : Combo → Combo → Bool
      better_by = on (seen_from tables block 0) ((grouped_order block.groups term).better)

      row_passes : (x : Combo) → Among low_combos x → is_unbettered better_by low_combos x ≡ true → (t : ℕ) → t < length block.from → (left : Option Term) → restricted t term ≡ left → is_best_row left t (row_at x t) ≡ true
      row_passes x in_x unbettered t t_small None is = refl
      row_passes x in_x unbettered t t_small (Some left) is =
          unbettered_from (on (seen_from tables block t) ((grouped_order (table_groups block t) left).better)) (scan_rows t) (row_at x t) (λ q in_q better.
          let kept = among_kept (λ r. all_hold block (at_scan block (lowered block) t) (seen_from tables block t r)) (single_rows (get_or (row_counts tables block.from) t 0)) q in_q in
          let found = among_map single (range_with_len 0 (get_or (row_counts tables block.from) t 0)) q kept.0 in
          let row = found.0 in
          let within = (among_range 0 (get_or (row_counts tables block.from) t 0) row found.1).1 in
          let row_small : row < get_or (row_counts tables block.from) t 0 = omega (arith, within) in
          let in_scan = subst (λ (c : Combo). Among (scan_rows t) c) (sym found.2) in_q in
          let both = and_parts (is_same_group (table_groups block t) (seen_from tables block t (single row)) (seen_from tables block t (row_at x t))) ((order_of left).better (seen_from tables block t (single row)) (seen_from tables block t (row_at x t)))
          (subst (λ (c : Combo). on (seen_from tables block t) ((grouped_order (table_groups block t) left).better) c (row_at x t) ≡ true) (sym found.2) better) in
          unbettered_at better_by low_combos x unbettered (of_rows (set x.rows t row))
          (other_there x in_x t row t_small in_scan row_small both.0)
          (and_from _ _ (other_group x in_x t row t_small in_scan row_small both.0) (other_better x in_x t row t_small in_scan row_small both.0 term left is both.1)))

      -- dropping rows so keeps the best
      pub best_before : best better_by (filter (λ c. all_pass tables block (lowered block) (passes_before (Some term)) c) low_combos) ≡ best better_by low_combos
      best_before =
          best-filter better_by (all_pass tables block (lowered block) (passes_before (Some term))) low_combos order (λ x in_x unbettered.
          all_from (λ t. passes_before (Some term) t (row_at x t)) (range_with_len 0 (length block.from)) (λ t there.
          let within = (among_range 0 (length block.from) t there).1 in
          row_passes x in_x unbettered t (omega (arith, within)) (restricted t term) refl))
