-- The rows of the FROM tables that pass WHERE are the candidates.
use Rattle.std.proofs.Common.{◌≡◌, ℕ, ◌+◌, ◌-◌, ◌<◌, Bool, true, false, ◌&&◌, List, [], ◌∷◌, length, get_or, map, filter, All, refl, sym, ap, ◌∙◌, arith}
use Rattle.std.specs.List.{flat_map, list_all}
use Rattle.std.proofs.lemmas.List.{get_or-map, length-map}
use Rattle.std.proofs.lemmas.List.Elements.{All-nil, All-cons, All-weaker}
use Rattle.std.proofs.lemmas.List.Folds.{list_all-map}
use Rattle.std.proofs.lemmas.Simd.{map-map}
use Rattle.prefsql_values.specs.declared.truth.Truth.{Truth}
use Rattle.prefsql_values.specs.declared.truth.Truth.TheVariants.{False, Unknown, True}
use Rattle.prefsql_values.specs.Truth.{all_true, both_true, is_true}
use Rattle.prefsql_tables.specs.declared.place.ColumnPlace.{ColumnPlace}
use Rattle.prefsql_tables.specs.declared.place.Combo.{Combo}
use Rattle.prefsql_tables.specs.declared.table.AnswerRow.{AnswerRow}
use Rattle.prefsql_tables.specs.Combos.{combos_of, picked}
use Rattle.prefsql_tables.specs.Product.{product}
use Rattle.prefsql_tables.specs.Sight.{Sight}
use Rattle.prefsql_tables.specs.Table.{Tables, cell_in, no_row, rows_of}
use Rattle.prefsql_tables.proofs.ProductLemmas.{get_or-picked, product_by_places}
use Rattle.pref_terms.specs.TermLaws.{All-first, All-second}
use Rattle.conditions.specs.declared.condition.Cond.{Cond}
use Rattle.conditions.specs.declared.condition.Quality.{Quality}
use Rattle.conditions.specs.declared.condition.Scalar.{Scalar}
use Rattle.conditions.specs.declared.condition.Scalar.TheVariants as scalar
use Rattle.conditions.specs.Meaning.{scalars_of, truth}
use Rattle.query_meaning.specs.declared.block.Block.{Block}
use Rattle.query_meaning.specs.declared.block.FromTable.{FromTable}
use Rattle.query_meaning.specs.Answers.{candidates, combinations, indexes_of, passes, row_counts, seen}
use Rattle.query_meaning.specs.BlockFits.{FitsTables, IsPlace, IsScalar}
use Rattle.query_meaning.specs.Choices.{IsChoice}
use Rattle.sql_tree.specs.declared.tree.SqlCond.{SqlCond, And}
use Rattle.sql_tree.specs.declared.tree.SqlItem.{SqlItem}
use Rattle.sql_tree.specs.declared.tree.SqlScalar.{SqlScalar}
use Rattle.sql_tree.specs.Meaning.{Scope, Scopes, from_rows, truth_in, value_in}
use Rattle.sql_tree.proofs.MeaningLemmas.{from_rows_is, row_of, selected, source_rows-Table, truth_in-And, value_in-Column}
use Rattle.sql_tree.proofs.MeaningLemmas as sql
use Rattle.rewritten_query.specs.Conditions.{cond_put, conjunction}
use Rattle.rewritten_query.specs.Names.{of_tables}
use Rattle.rewritten_query.specs.Rewriting.{quality_of_tables, table_item, table_items, where_over_tables}
use Rattle.query_meaning.specs.Valid.{IsOverLeaves}
use Rattle.written_query_meaning.proofs.CondPut.{IsRead, put_read}
use Rattle.prefsql_tables.proofs.ListLemmas.{all_on, filter-map, filter_on}
use Rattle.query_meaning.proofs.AskedLemmas.{combinations_chosen}
use Rattle.query_meaning.proofs.ChoiceLemmas.{length-choice}
use Rattle.written_query_meaning.proofs.Readings.{literal_read}

-- ---- conjunctions

pub true_both : (a b : Truth) → is_true (both_true a b) ≡ (is_true a && is_true b)
true_both False b = refl
true_both Unknown False = refl
true_both Unknown Unknown = refl
true_both Unknown True = refl
true_both True b = refl

and_true : (b : Bool) → b ≡ (b && true)
and_true true = refl
and_true false = refl

module _ (tables : Tables) (scopes : Scopes) where
  abbrev holds : SqlCond → Bool
  holds c = is_true (truth_in tables c scopes)

  all_hold : (conds : List SqlCond) → is_true (all_true (map (λ c. truth_in tables c scopes) conds)) ≡ list_all holds conds
  all_hold [] = refl
  all_hold (c ∷ conds) = true_both (truth_in tables c scopes) (all_true (map (λ d. truth_in tables d scopes) conds)) ∙ ap (λ b. holds c && b) (all_hold conds)

  pub and_holds : (conds : List SqlCond) → is_true (truth_in tables (And conds) scopes) ≡ list_all (λ c. is_true (truth_in tables c scopes)) conds
  and_holds conds = ap is_true (truth_in-And tables conds scopes) ∙ all_hold conds

  -- the one condition of several is True exactly where each is
  pub conjunction_holds : (conds : List SqlCond) → sql.passes tables (conjunction conds) scopes ≡ list_all (λ c. is_true (truth_in tables c scopes)) conds
  conjunction_holds [] = refl
  conjunction_holds (c ∷ []) = and_true (holds c)
  conjunction_holds (c ∷ d ∷ more) = and_holds (c ∷ d ∷ more)

-- ---- the conditions of a list

pub split_scalars : (P : Scalar → Type 0) (conds : List Cond) → All P (flat_map scalars_of conds) → All (λ c. All P (scalars_of c)) conds
split_scalars P [] all = All-nil (λ c. All P (scalars_of c))
split_scalars P (c ∷ conds) all =
    All-cons (λ d. All P (scalars_of d)) c conds (All-first P (scalars_of c) (flat_map scalars_of conds) all) (split_scalars P conds (All-second P (scalars_of c) (flat_map scalars_of conds) all))

module _ (tables : Tables) (scopes : Scopes) (column : ColumnPlace → SqlScalar) (quality : Quality → SqlScalar) (sight : Sight) where
  pub conds_hold : (conds : List Cond) → All (IsRead tables scopes column quality sight) (flat_map scalars_of conds)
      → list_all (λ c. is_true (truth_in tables c scopes)) (map (cond_put column quality) conds) ≡ passes conds sight
  conds_hold conds reads =
      list_all-map (λ c. is_true (truth_in tables c scopes)) (cond_put column quality) conds
      ∙ all_on (λ c. is_true (truth_in tables (cond_put column quality c) scopes)) (λ c. is_true (truth sight c)) conds
      (All-weaker (λ c. All (IsRead tables scopes column quality sight) (scalars_of c)) (λ c. is_true (truth_in tables (cond_put column quality c) scopes) ≡ is_true (truth sight c))
      (λ c all. ap is_true (put_read tables scopes column quality sight c all)) conds (split_scalars (IsRead tables scopes column quality sight) conds reads))

-- ---- the rows of the FROM tables

no_from : FromTable
no_from = record { index = 0; name = []; schema = record { columns = [] } }

module _ (tables : Tables) (block : Block) where
  abbrev table_rows : FromTable → List AnswerRow
  table_rows t = rows_of tables t.index

  -- one row of each FROM table
  abbrev pub scope_of : Combo → Scope
  scope_of combo = picked no_row (map table_rows block.from) combo.rows

  items_rows : (n : ℕ) (from : List FromTable) → map (from_rows tables) (table_items n from) ≡ map table_rows from
  items_rows n [] = refl
  items_rows n (table ∷ from) = λ j.
      (from_rows_is tables (table_item n table) ∙ source_rows-Table tables (record { index = table.index; name = table.name; schema = table.schema })) j ∷ items_rows (n + 1) from j

  all_scopes : product (map (from_rows tables) (table_items 1 block.from)) ≡ map scope_of (combinations tables block.from)
  all_scopes =
      let xss = map table_rows block.from in
      ap product (items_rows 1 block.from)
      ∙ product_by_places no_row xss
      ∙ ap (λ counts. map (picked no_row xss) (combos_of counts)) (map-map length table_rows block.from)
      ∙ sym (map-map scope_of (λ rows. let combo : Combo = record { rows = rows } in combo) (combos_of (row_counts tables block.from)))

  module _ (fits : FitsTables tables block) (combo : Combo) (chosen : IsChoice (row_counts tables block.from) combo.rows) (scopes : Scopes) where
    -- a column of the tables shows what the combination does
    pub place_read : (place : ColumnPlace) → IsPlace block.from place → value_in tables (of_tables place) (scope_of combo ∷ scopes) ≡ seen tables block combo place
    place_read place is =
        let t = place.table in
        let xss = map table_rows block.from in
        let few : length combo.rows ≡ length block.from = length-choice (row_counts tables block.from) combo.rows chosen ∙ length-map block.from (λ (table : FromTable). length (rows_of tables table.index)) in
        let in_rows : t < length combo.rows = omega (arith, few, is.table) in
        let in_lists : t < length xss = omega (arith, length-map block.from table_rows, is.table) in
        let rows_are : get_or xss t [] ≡ rows_of tables (get_or (indexes_of block.from) t 0) =
        get_or-map table_rows block.from t no_from [] is.table
        ∙ ap (rows_of tables) (sym (get_or-map (λ (table : FromTable). table.index) block.from t no_from 0 is.table)) in
        let first : t ≡ t - 0 = omega arith in
        value_in-Column tables (record { up = 0; item = t; column = place.column }) (scope_of combo ∷ scopes)
        ∙ ap (λ row. cell_in row place.column) (get_or-picked no_row xss combo.rows t in_lists in_rows)
        ∙ (λ j. cell_in (get_or (rows_are j) (get_or combo.rows (first j) 0) no_row) place.column)

    where_scalar : (s : Scalar) → IsScalar block.from s → IsOverLeaves [] s → IsRead tables (scope_of combo ∷ scopes) of_tables quality_of_tables (seen tables block combo) s
    where_scalar (scalar.Column place) is kept = record { value = place_read place is; best = tt }
    where_scalar (scalar.Literal value) is kept = record { value = literal_read tables (scope_of combo ∷ scopes) value; best = tt }
    where_scalar (scalar.Quality quality) is kept = absurd (omega (arith, kept.2))

    where_read : All (IsScalar block.from) (flat_map scalars_of block.filter) → All (IsOverLeaves []) (flat_map scalars_of block.filter)
        → sql.passes tables (where_over_tables block) (scope_of combo ∷ scopes) ≡ passes block.filter (seen tables block combo)
    where_read places kept =
        conjunction_holds tables (scope_of combo ∷ scopes) (map (cond_put of_tables quality_of_tables) block.filter)
        ∙ conds_hold tables (scope_of combo ∷ scopes) of_tables quality_of_tables (seen tables block combo) block.filter
        (λ k d small. where_scalar (get_or (flat_map scalars_of block.filter) k d) (places k d small) (kept k d small))

  -- the rows of a query from the tables with the block's WHERE
  pub candidates_selected : FitsTables tables block → All (IsScalar block.from) (flat_map scalars_of block.filter) → All (IsOverLeaves []) (flat_map scalars_of block.filter)
      → (items : List SqlItem) (scopes : Scopes) → selected tables items (table_items 1 block.from) (where_over_tables block) scopes ≡ map (λ combo. row_of tables items (scope_of combo ∷ scopes)) (candidates tables block)
  candidates_selected fits places kept items scopes =
      let combos = combinations tables block.from in
      let K : Scope → Bool = λ scope. sql.passes tables (where_over_tables block) (scope ∷ scopes) in
      let R : Scope → AnswerRow = λ scope. row_of tables items (scope ∷ scopes) in
      ap (λ all. map R (filter K all)) all_scopes
      ∙ ap (map R) (filter-map K scope_of combos)
      ∙ map-map R scope_of (filter (λ combo. K (scope_of combo)) combos)
      ∙ ap (map (λ combo. R (scope_of combo)))
      (filter_on (λ combo. K (scope_of combo)) (λ combo. passes block.filter (seen tables block combo)) combos
      (All-weaker (λ combo. IsChoice (row_counts tables block.from) combo.rows) (λ combo. K (scope_of combo) ≡ passes block.filter (seen tables block combo)) (λ combo chosen. where_read fits combo chosen scopes places kept) combos (combinations_chosen tables block)))
