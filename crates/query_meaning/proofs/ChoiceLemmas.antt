-- Rows of the FROM tables from some position on: what the block speaks of them is there.
use Rattle.std.proofs.Common.{◌≡◌, ℕ, zero, suc, ◌+◌, ◌-◌, ◌<◌, ◌≤◌, List, [], ◌∷◌, length, get_or, map, All, refl, sym, ap, ◌∙◌, subst, arith}
use Rattle.std.specs.List.{HoldsAt, flat_map, range_with_len}
use Rattle.std.proofs.lemmas.List.{get_or-map, length-map}
use Rattle.std.proofs.lemmas.List.Elements.{All-nil, All-cons, All-head, All-weaker}
use Rattle.prefsql_tables.specs.Sight.{IsInSight}
use Rattle.prefsql_tables.specs.Table.{Tables, rows_of, columns_of}
use Rattle.prefsql_tables.specs.declared.place.ColumnPlace.{ColumnPlace}
use Rattle.prefsql_tables.specs.declared.schema.Column.{Column}
use Rattle.base_prefs.specs.Rankable.{IsRankable}
use Rattle.pref_terms.specs.declared.term.Leaf.{Leaf}
use Rattle.pref_terms.specs.declared.term.Term.{Term}
use Rattle.pref_terms.specs.Fits.{LeafFits, TermFits}
use Rattle.pref_terms.specs.TermLaws.{All-first, All-second}
use Rattle.pref_terms.specs.Terms.{leaves_of}
use Rattle.conditions.specs.declared.condition.Cond.{Cond}
use Rattle.conditions.specs.declared.condition.Scalar.{Scalar}
use Rattle.conditions.specs.declared.condition.Scalar.TheVariants as scalar
use Rattle.conditions.specs.Fits.{CondFits, ScalarFits}
use Rattle.conditions.specs.Meaning.{scalars_of}
use Rattle.conditions.specs.Places.{scalar_places}
use Rattle.query_meaning.specs.declared.block.FromTable.{FromTable}
use Rattle.query_meaning.specs.Answers.{indexes_of, row_counts}
use Rattle.query_meaning.specs.BlockFits.{IsTableOf, columns_from, IsPlace, IsRankedPlace, IsScalar, IsLeaf}
use Rattle.query_meaning.specs.Choices.{IsChoice, IsChoiceFrom}

pub length-choice : (limits rows : List ℕ) → IsChoice limits rows → length rows ≡ length limits
length-choice [] [] chosen = refl
length-choice [] (row ∷ rows) chosen = absurd chosen
length-choice (limit ∷ limits) [] chosen = absurd chosen
length-choice (limit ∷ limits) (row ∷ rows) chosen = let more = length-choice limits rows chosen.1 in omega arith

below_limit : (limits rows : List ℕ) (k : ℕ) → IsChoice limits rows → k < length limits → get_or rows k 0 < get_or limits k 0
below_limit [] rows k chosen small = absurd (omega arith)
below_limit (limit ∷ limits) [] k chosen small = absurd chosen
below_limit (limit ∷ limits) (row ∷ rows) zero chosen small = chosen.0
below_limit (limit ∷ limits) (row ∷ rows) (suc k) chosen small = below_limit limits rows k chosen.1 (omega arith)

-- a row of each is a choice from the first on
pub choice_from_first : (limits rows : List ℕ) → IsChoice limits rows → IsChoiceFrom limits 0 rows
choice_from_first limits rows chosen =
    let long = length-choice limits rows chosen in
    record {
      within = omega arith;
      below = λ k small. let at : 0 + k ≡ k = omega arith in subst (λ i. get_or rows k 0 < get_or limits i 0) (sym at) (below_limit limits rows k chosen (omega arith));
    }

below_ranged : (limits rows : List ℕ) (first count : ℕ) → IsChoice (map (λ t. get_or limits t 0) (range_with_len first count)) rows → (k : ℕ) → k < length rows → get_or rows k 0 < get_or limits (first + k) 0
below_ranged limits [] first count chosen k small = absurd (omega arith)
below_ranged limits (row ∷ rows) first zero chosen k small = absurd chosen
below_ranged limits (row ∷ rows) first (suc count) chosen zero small = let at : first + 0 ≡ first = omega arith in subst (λ i. row < get_or limits i 0) (sym at) chosen.0
below_ranged limits (row ∷ rows) first (suc count) chosen (suc k) small =
    let at : first + 1 + k ≡ first + suc k = omega arith in
    subst (λ i. get_or rows k 0 < get_or limits i 0) at (below_ranged limits rows (first + 1) count chosen.1 k (omega arith))

length_ranged : (limits rows : List ℕ) (first count : ℕ) → IsChoice (map (λ t. get_or limits t 0) (range_with_len first count)) rows → length rows ≡ count
length_ranged limits [] first zero chosen = refl
length_ranged limits [] first (suc count) chosen = absurd chosen
length_ranged limits (row ∷ rows) first zero chosen = absurd chosen
length_ranged limits (row ∷ rows) first (suc count) chosen = let more = length_ranged limits rows (first + 1) count chosen.1 in omega arith

-- and so is a row of each of some tables that stand in a row
pub choice_from_range : (limits rows : List ℕ) (first count : ℕ) → first + count ≤ length limits → IsChoice (map (λ t. get_or limits t 0) (range_with_len first count)) rows → IsChoiceFrom limits first rows
choice_from_range limits rows first count within chosen =
    let long = length_ranged limits rows first count chosen in
    record { within = omega arith; below = below_ranged limits rows first count chosen }

no_from : FromTable
no_from = record { index = 0; name = []; schema = record { columns = [] } }

module _ (tables : Tables) (from : List FromTable) (fits : All (IsTableOf tables) from) where
  index_at : (k : ℕ) → k < length from → get_or (indexes_of from) k 0 ≡ (get_or from k no_from).index
  index_at k small = get_or-map (λ (table : FromTable). table.index) from k no_from 0 small

  -- the set has the columns of the FROM table
  pub columns_there : (k : ℕ) → k < length from → columns_of tables (get_or (indexes_of from) k 0) ≡ columns_from from k
  columns_there k small =
      ap (columns_of tables) (index_at k small)
      ∙ (fits k no_from small).columns
      ∙ sym (get_or-map (λ (table : FromTable). table.schema.columns) from k no_from [] small)

  counts_long : length (row_counts tables from) ≡ length from
  counts_long = length-map from (λ (table : FromTable). length (rows_of tables table.index))

  module _ (first : ℕ) (rows : List ℕ) (chosen : IsChoiceFrom (row_counts tables from) first rows) where
    -- the combination has a row of the column's table
    pub record IsWithin (place : ColumnPlace) : Type 0 where
      pub not_before : first ≤ place.table
      pub in_combo : place.table < first + length rows

    row_below : (t : ℕ) → t < length from → first ≤ t → t < first + length rows → get_or rows (t - first) 0 < length (rows_of tables (get_or from t no_from).index)
    row_below t small low high =
        let at : first + (t - first) ≡ t = omega arith in
        let is = get_or-map (λ (table : FromTable). length (rows_of tables table.index)) from t no_from 0 small in
        subst (λ n. get_or rows (t - first) 0 < n) (ap (λ i. get_or (row_counts tables from) i 0) at ∙ is) (chosen.below (t - first) (omega arith))

    pub in_sight_from : (place : ColumnPlace) → IsPlace from place → IsWithin place → IsInSight tables (indexes_of from) first rows place
    in_sight_from place is within =
        let t = place.table in
        let at : get_or (indexes_of from) t 0 ≡ (get_or from t no_from).index = index_at t is.table in
        record {
          not_before = within.not_before;
          in_combo = within.in_combo;
          in_from = (let there = is.table in omega (arith, there, length-map from (λ (table : FromTable). table.index)));
          cell = record {
            table = subst (λ i. i < length tables) (sym at) (fits t no_from is.table).there;
            row_in = subst (λ (i : ℕ). get_or rows (t - first) 0 < length (rows_of tables i)) (sym at) (row_below t is.table within.not_before within.in_combo);
            column_in = subst (λ (columns : List Column). place.column < length columns) (sym (columns_there t is.table)) is.column;
          };
        }

    rankable : (place : ColumnPlace) (kind : _) → IsRankedPlace from place kind → HoldsAt (λ (column : Column). IsRankable kind column.domain column.nullable) (columns_of tables (get_or (indexes_of from) place.table 0)) place.column
    rankable place kind is =
        subst (λ (columns : List Column). HoldsAt (λ (column : Column). IsRankable kind column.domain column.nullable) columns place.column)
        (sym (columns_there place.table is.there.table)) is.rankable

    -- what reads columns of these tables alone
    pub record IsScalarWithin (s : Scalar) : Type 0 where
      pub is : IsScalar from s
      pub within : All IsWithin (scalar_places s)

    pub record IsLeafWithin (leaf : Leaf) : Type 0 where
      pub is : IsLeaf from leaf
      pub within : IsWithin leaf.place

    pub record IsPlaceWithin (place : ColumnPlace) : Type 0 where
      pub is : IsPlace from place
      pub within : IsWithin place

    pub scalar_fits_from : (s : Scalar) → IsScalarWithin s → ScalarFits tables (indexes_of from) first rows s
    scalar_fits_from (scalar.Column place) s = in_sight_from place s.is (All-head IsWithin place [] s.within)
    scalar_fits_from (scalar.Literal value) s = tt
    scalar_fits_from (scalar.Quality quality) s = record {
      in_sight = in_sight_from quality.place s.is.ranked.there (All-head IsWithin quality.place [] s.within);
      rankable = rankable quality.place quality.base s.is.ranked;
      has_quality = s.is.has_quality;
    }

    pub cond_fits_from : (c : Cond) → All IsScalarWithin (scalars_of c) → CondFits tables (indexes_of from) first rows c
    cond_fits_from c all = record { each = All-weaker IsScalarWithin (ScalarFits tables (indexes_of from) first rows) scalar_fits_from (scalars_of c) all }

    leaf_fits_from : (leaf : Leaf) → IsLeafWithin leaf → LeafFits tables (indexes_of from) first rows leaf
    leaf_fits_from leaf l = record { in_sight = in_sight_from leaf.place l.is.ranked.there l.within; rankable = rankable leaf.place leaf.base l.is.ranked; trivial = l.is.trivial }

    pub term_fits_from : (term : Term) (groups : List ColumnPlace) → All IsLeafWithin (leaves_of term) → All IsPlaceWithin groups → TermFits tables (indexes_of from) first rows term groups
    term_fits_from term groups leaves places = record {
      leaves = record { each = All-weaker IsLeafWithin (LeafFits tables (indexes_of from) first rows) leaf_fits_from (leaves_of term) leaves };
      groups_in_sight = All-weaker IsPlaceWithin (IsInSight tables (indexes_of from) first rows) (λ place p. in_sight_from place p.is p.within) groups places;
    }

  -- with a row of each FROM table every column is there
  module _ (rows : List ℕ) (chosen : IsChoice (row_counts tables from) rows) where
    of_first : IsChoiceFrom (row_counts tables from) 0 rows
    of_first = choice_from_first (row_counts tables from) rows chosen

    place_within : (place : ColumnPlace) → IsPlace from place → IsWithin 0 rows of_first place
    place_within place is =
        let there = is.table in
        record { not_before = omega arith; in_combo = omega (arith, there, length-choice (row_counts tables from) rows chosen, counts_long) }

    scalar_within : (s : Scalar) → IsScalar from s → IsScalarWithin 0 rows of_first s
    scalar_within (scalar.Column place) is = record { is = is; within = All-cons (IsWithin 0 rows of_first) place [] (place_within place is) (All-nil _) }
    scalar_within (scalar.Literal value) is = record { is = is; within = All-nil _ }
    scalar_within (scalar.Quality quality) is = record { is = is; within = All-cons (IsWithin 0 rows of_first) quality.place [] (place_within quality.place is.ranked.there) (All-nil _) }

    pub scalar_fits : (s : Scalar) → IsScalar from s → ScalarFits tables (indexes_of from) 0 rows s
    scalar_fits s is = scalar_fits_from 0 rows of_first s (scalar_within s is)

    pub conds_fit : (conds : List Cond) → All (IsScalar from) (flat_map scalars_of conds) → All (CondFits tables (indexes_of from) 0 rows) conds
    conds_fit [] all = All-nil _
    conds_fit (cond ∷ conds) all =
        All-cons (CondFits tables (indexes_of from) 0 rows) cond conds
        (cond_fits_from 0 rows of_first cond (All-weaker (IsScalar from) (IsScalarWithin 0 rows of_first) scalar_within (scalars_of cond) (All-first (IsScalar from) (scalars_of cond) (flat_map scalars_of conds) all)))
        (conds_fit conds (All-second (IsScalar from) (scalars_of cond) (flat_map scalars_of conds) all))

    pub term_fits : (term : Term) (groups : List ColumnPlace) → All (IsLeaf from) (leaves_of term) → All (IsPlace from) groups → TermFits tables (indexes_of from) 0 rows term groups
    term_fits term groups leaves places =
        term_fits_from 0 rows of_first term groups
        (All-weaker (IsLeaf from) (IsLeafWithin 0 rows of_first) (λ leaf is. record { is = is; within = place_within leaf.place is.ranked.there }) (leaves_of term) leaves)
        (All-weaker (IsPlace from) (IsPlaceWithin 0 rows of_first) (λ place is. record { is = is; within = place_within place is }) groups places)
