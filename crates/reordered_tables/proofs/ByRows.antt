-- An answer by the rows of its FROM tables, without their places.
use Rattle.std.proofs.Common.{◌≡◌, ◌-◌, ◌<◌, Bool, ◌&&◌, Option, Some, None, List, [], length, get_or, map, filter, All, refl, sym, ap, ◌∙◌, subst, arith, inl, inr}
use Rattle.std.specs.Prelude.{IfSome, slice_index_or, not}
use Rattle.std.specs.List.{flat_map}
use Rattle.std.specs.Ordering.{on}
use Rattle.std.proofs.lemmas.List.{length-map, get_or-map}
use Rattle.std.proofs.lemmas.Simd.{map-map}
use Rattle.std.proofs.lemmas.List.Elements.{All-contains, All-weaker}
use Rattle.prefsql_values.specs.Truth.{is_true}
use Rattle.prefsql_values.specs.Value.{value_eq}
use Rattle.prefsql_tables.specs.Combos.{combos_of, picked}
use Rattle.prefsql_tables.specs.Product.{product}
use Rattle.prefsql_tables.specs.Sight.{Sight}
use Rattle.prefsql_tables.specs.Table.{Tables, cell_in, no_row, rows_of}
use Rattle.prefsql_tables.specs.declared.place.ColumnPlace.{ColumnPlace}
use Rattle.prefsql_tables.specs.declared.place.Combo.{Combo}
use Rattle.prefsql_tables.specs.declared.table.AnswerRow.{AnswerRow}
use Rattle.prefsql_tables.proofs.ListLemmas.{all_on, any_on, filter-map, filter_on, list_any-map, map_on}
use Rattle.prefsql_tables.proofs.ProductLemmas.{get_or-picked, product_by_places}
use Rattle.order_laws.proofs.Members.{Among, Contains_from_among, among_flat_map, among_flat_mapped, all_same}
use Rattle.order_laws.specs.Best.{best, is_unbettered}
use Rattle.pref_terms.specs.declared.term.Term.{Term}
use Rattle.pref_terms.specs.Terms.{grouped_order, is_same_group, leaves_of}
use Rattle.pref_terms.proofs.LeafReads.{LeavesAgree, standing_same}
use Rattle.conditions.specs.declared.condition.Cond.{Cond}
use Rattle.conditions.specs.declared.condition.Scalar.{Scalar}
use Rattle.conditions.specs.declared.condition.Scalar.TheVariants as scalar
use Rattle.conditions.specs.Meaning.{scalar_value, scalars_of, truth}
use Rattle.conditions.specs.Places.{scalar_places}
use Rattle.conditions.proofs.ReadLaws.{Agree, scalar_same, truth_same}
use Rattle.query_meaning.specs.declared.block.Block.{Block}
use Rattle.query_meaning.specs.declared.block.FromTable.{FromTable}
use Rattle.query_meaning.specs.declared.block.Output.{Output}
use Rattle.query_meaning.specs.Answers.{best_by, best_rows, candidates, combinations, indexes_of, kept_rows, output_row, passes, row_counts, seen}
use Rattle.query_meaning.specs.BlockFits.{HasPlaces, IsLeaf, IsPlace, IsScalar}
use Rattle.query_meaning.specs.Choices.{IsChoice}
use Rattle.query_meaning.proofs.AskedLemmas.{best_rows_chosen, candidates_chosen, combinations_chosen, kept_rows_chosen}
use Rattle.query_meaning.proofs.ChoiceLemmas.{length-choice}

no_from : FromTable
no_from = record { index = 0; name = []; schema = record { columns = [] } }

-- one row of each FROM table
abbrev pub Rows : Type 0
Rows = List AnswerRow

-- what they show
abbrev pub shown_by : Rows → Sight
shown_by rows place = cell_in (slice_index_or rows place.table no_row) place.column

-- the rows of each FROM table
abbrev pub sources : Tables → List FromTable → List (List AnswerRow)
sources tables = map (λ (table : FromTable). rows_of tables table.index)

module _ (block : Block) where
  abbrev pub best_of : Option Term → List ColumnPlace → List Rows → List Rows
  best_of None groups xs = xs
  best_of (Some term) groups xs = best (on shown_by ((grouped_order groups term).better)) xs

  -- the output of all choices of rows of these lists
  abbrev pub outputs : List (List AnswerRow) → List AnswerRow
  outputs lists =
      map (λ rows. output_row block (shown_by rows))
      (filter (λ rows. passes block.only (shown_by rows))
      (best_of block.term block.groups (filter (λ rows. passes block.filter (shown_by rows)) (product lists))))

module _ (tables : Tables) (block : Block) where
  abbrev pub rows_at : Combo → Rows
  rows_at combo = picked no_row (sources tables block.from) combo.rows

  pub all_rows : map rows_at (combinations tables block.from) ≡ product (sources tables block.from)
  all_rows =
      map-map rows_at (λ rows. let combo : Combo = record { rows = rows } in combo) (combos_of (row_counts tables block.from))
      ∙ ap (λ counts. map (picked no_row (sources tables block.from)) (combos_of counts)) (sym (map-map length (λ (table : FromTable). rows_of tables table.index) block.from))
      ∙ sym (product_by_places no_row (sources tables block.from))

  abbrev Chosen : Combo → Type 0
  Chosen combo = IsChoice (row_counts tables block.from) combo.rows

  pub place_shown : (combo : Combo) → Chosen combo → (place : ColumnPlace) → IsPlace block.from place → shown_by (rows_at combo) place ≡ seen tables block combo place
  place_shown combo chosen place is =
      let t = place.table in
      let xss = sources tables block.from in
      let few : length combo.rows ≡ length block.from = length-choice (row_counts tables block.from) combo.rows chosen ∙ length-map block.from (λ (table : FromTable). length (rows_of tables table.index)) in
      let in_rows : t < length combo.rows = omega (arith, few, is.table) in
      let in_lists : t < length xss = omega (arith, length-map block.from (λ (table : FromTable). rows_of tables table.index), is.table) in
      let rows_are : get_or xss t [] ≡ rows_of tables (get_or (indexes_of block.from) t 0) =
      get_or-map (λ (table : FromTable). rows_of tables table.index) block.from t no_from [] is.table
      ∙ ap (rows_of tables) (sym (get_or-map (λ (table : FromTable). table.index) block.from t no_from 0 is.table)) in
      let first : t ≡ t - 0 = omega arith in
      ap (λ row. cell_in row place.column) (get_or-picked no_row xss combo.rows t in_lists in_rows)
      ∙ (λ j. cell_in (get_or (rows_are j) (get_or combo.rows (first j) 0) no_row) place.column)

  -- ---- what reads places of the block alone

  scalar_agrees : (combo : Combo) → Chosen combo → (s : Scalar) → IsScalar block.from s → Agree (shown_by (rows_at combo)) (seen tables block combo) (scalar_places s)
  scalar_agrees combo chosen s is = record { at = λ p there. place_shown combo chosen p (place_of s is p there) }
    where
      place_of : (s : Scalar) → IsScalar block.from s → (p : ColumnPlace) → Among (scalar_places s) p → IsPlace block.from p
      place_of (scalar.Column place) is p (inl e) = subst (IsPlace block.from) e is
      place_of (scalar.Column place) is p (inr a) = absurd a
      place_of (scalar.Literal value) is p a = absurd a
      place_of (scalar.Quality quality) is p (inl e) = subst (IsPlace block.from) e is.ranked.there
      place_of (scalar.Quality quality) is p (inr a) = absurd a

  pub conds_agree : (combo : Combo) → Chosen combo → (conds : List Cond) → All (IsScalar block.from) (flat_map scalars_of conds) → passes conds (shown_by (rows_at combo)) ≡ passes conds (seen tables block combo)
  conds_agree combo chosen conds all =
      all_same (λ c. is_true (truth (shown_by (rows_at combo)) c)) (λ c. is_true (truth (seen tables block combo) c)) conds
      (λ c there. ap is_true (truth_same (shown_by (rows_at combo)) (seen tables block combo) c
      (record {
        at = λ p reads.
            let found = among_flat_map scalar_places (scalars_of c) p reads in
            let is = All-contains (IsScalar block.from) (flat_map scalars_of conds) found.0 all (Contains_from_among (flat_map scalars_of conds) found.0 (among_flat_mapped scalars_of conds c found.0 there found.1)) in
            (scalar_agrees combo chosen found.0 is).at p found.2;
      })))

  module _ (places : HasPlaces block) where
    pub candidates_rows : map rows_at (candidates tables block) ≡ filter (λ rows. passes block.filter (shown_by rows)) (product (sources tables block.from))
    candidates_rows =
        ap (map rows_at)
        (filter_on (λ combo. passes block.filter (seen tables block combo)) (λ combo. passes block.filter (shown_by (rows_at combo))) (combinations tables block.from)
        (All-weaker Chosen (λ combo. passes block.filter (seen tables block combo) ≡ passes block.filter (shown_by (rows_at combo)))
        (λ combo chosen. sym (conds_agree combo chosen block.filter places.filter)) (combinations tables block.from) (combinations_chosen tables block)))
        ∙ sym (filter-map (λ rows. passes block.filter (shown_by rows)) rows_at (combinations tables block.from))
        ∙ ap (filter (λ rows. passes block.filter (shown_by rows))) all_rows

    module _ (term : Term) (leaves : All (IsLeaf block.from) (leaves_of term)) where
      pub better_agrees : (y x : Combo) → Chosen y → Chosen x → (grouped_order block.groups term).better (shown_by (rows_at y)) (shown_by (rows_at x)) ≡ (grouped_order block.groups term).better (seen tables block y) (seen tables block x)
      better_agrees y x y_is x_is = λ j. groups_agree j && (standing_same (shown_by (rows_at y)) (shown_by (rows_at x)) (seen tables block y) (seen tables block x) term (leaves_agree y y_is) (leaves_agree x x_is)).better j
        where
          leaves_agree : (c : Combo) → Chosen c → LeavesAgree (shown_by (rows_at c)) (seen tables block c) (leaves_of term)
          leaves_agree c chosen = record { at = λ leaf there. place_shown c chosen leaf.place (All-contains (IsLeaf block.from) (leaves_of term) leaf leaves (Contains_from_among (leaves_of term) leaf there)).ranked.there }

          groups_agree : is_same_group block.groups (shown_by (rows_at y)) (shown_by (rows_at x)) ≡ is_same_group block.groups (seen tables block y) (seen tables block x)
          groups_agree =
              all_on (λ place. value_eq (shown_by (rows_at y) place) (shown_by (rows_at x) place)) (λ place. value_eq (seen tables block y place) (seen tables block x place)) block.groups
              (All-weaker (IsPlace block.from) (λ place. value_eq (shown_by (rows_at y) place) (shown_by (rows_at x) place) ≡ value_eq (seen tables block y place) (seen tables block x place))
              (λ place is. (λ j. value_eq (place_shown y y_is place is j) (place_shown x x_is place is j))) block.groups places.groups)

      best_rows_of : (xs : List Combo) → All Chosen xs → map rows_at (best (on (seen tables block) ((grouped_order block.groups term).better)) xs) ≡ best (on shown_by ((grouped_order block.groups term).better)) (map rows_at xs)
      best_rows_of xs all =
          let by_rows : Rows → Rows → Bool = on shown_by ((grouped_order block.groups term).better) in
          let by_combos : Combo → Combo → Bool = on (seen tables block) ((grouped_order block.groups term).better) in
          ap (map rows_at)
          (filter_on (is_unbettered by_combos xs) (λ x. is_unbettered by_rows (map rows_at xs) (rows_at x)) xs
          (All-weaker Chosen (λ x. is_unbettered by_combos xs x ≡ is_unbettered by_rows (map rows_at xs) (rows_at x))
          (λ x x_is. ap not
          (any_on (λ y. by_combos y x) (λ y. by_rows (rows_at y) (rows_at x)) xs
          (All-weaker Chosen (λ y. by_combos y x ≡ by_rows (rows_at y) (rows_at x)) (λ y y_is. sym (better_agrees y x y_is x_is)) xs all)
          ∙ sym (list_any-map (λ y. by_rows y (rows_at x)) rows_at xs))) xs all))
          ∙ sym (filter-map (is_unbettered by_rows (map rows_at xs)) rows_at xs)

    best_by_rows : (term : Option Term) → IfSome term (λ t. All (IsLeaf block.from) (leaves_of t)) → (xs : List Combo) → All Chosen xs → map rows_at (best_by term block.groups (seen tables block) xs) ≡ best_of block term block.groups (map rows_at xs)
    best_by_rows None leaves xs all = refl
    best_by_rows (Some term) leaves xs all = best_rows_of term leaves xs all

    kept_rows_are : map rows_at (kept_rows tables block) ≡ filter (λ rows. passes block.only (shown_by rows)) (best_of block block.term block.groups (filter (λ rows. passes block.filter (shown_by rows)) (product (sources tables block.from))))
    kept_rows_are =
        ap (map rows_at)
        (filter_on (λ combo. passes block.only (seen tables block combo)) (λ combo. passes block.only (shown_by (rows_at combo))) (best_rows tables block)
        (All-weaker Chosen (λ combo. passes block.only (seen tables block combo) ≡ passes block.only (shown_by (rows_at combo)))
        (λ combo chosen. sym (conds_agree combo chosen block.only places.only)) (best_rows tables block) (best_rows_chosen tables block)))
        ∙ sym (filter-map (λ rows. passes block.only (shown_by rows)) rows_at (best_rows tables block))
        ∙ ap (filter (λ rows. passes block.only (shown_by rows))) (best_by_rows block.term places.leaves (candidates tables block) (candidates_chosen tables block) ∙ ap (best_of block block.term block.groups) candidates_rows)

    pub output_agrees : (combo : Combo) → Chosen combo → output_row block (seen tables block combo) ≡ output_row block (shown_by (rows_at combo))
    output_agrees combo chosen = λ j. record { cells = cells j }
      where
        cells : map (λ (output : Output). scalar_value (seen tables block combo) output.scalar) block.output ≡ map (λ (output : Output). scalar_value (shown_by (rows_at combo)) output.scalar) block.output
        cells =
            map_on (λ (output : Output). scalar_value (seen tables block combo) output.scalar) (λ (output : Output). scalar_value (shown_by (rows_at combo)) output.scalar) block.output
            (All-weaker (λ (output : Output). IsScalar block.from output.scalar) (λ (output : Output). scalar_value (seen tables block combo) output.scalar ≡ scalar_value (shown_by (rows_at combo)) output.scalar)
            (λ output is. sym (scalar_same (shown_by (rows_at combo)) (seen tables block combo) output.scalar (scalar_agrees combo chosen output.scalar is))) block.output places.output)

    -- what the kept rows show is told by the rows of the FROM tables
    pub outputs_are : map (λ combo. output_row block (seen tables block combo)) (kept_rows tables block) ≡ outputs block (sources tables block.from)
    outputs_are =
        map_on (λ combo. output_row block (seen tables block combo)) (λ combo. output_row block (shown_by (rows_at combo))) (kept_rows tables block)
        (All-weaker Chosen (λ combo. output_row block (seen tables block combo) ≡ output_row block (shown_by (rows_at combo))) output_agrees (kept_rows tables block) (kept_rows_chosen tables block))
        ∙ sym (map-map (λ rows. output_row block (shown_by rows)) rows_at (kept_rows tables block))
        ∙ ap (map (λ rows. output_row block (shown_by rows))) kept_rows_are
