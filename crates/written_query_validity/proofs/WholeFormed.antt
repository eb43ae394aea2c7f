-- The query that a valid block is written as is well formed, and each of its columns is told by its names.
use Rattle.std.proofs.Common.{◌≡◌, ℕ, suc, ◌+◌, ◌-◌, ◌≤◌, ◌<◌, ◌^◌, Bool, true, false, cond, Contains, get_or, Option, Some, None, List, [], ◌∷◌, map, length, All, refl, sym, ap, subst, ◌∙◌, arith, inl, inr, length-append}
use Rattle.std.specs.List.{flat_map, list_any, range_with_len}
use Rattle.std.specs.Option.{option_map}
use Rattle.std.specs.Prelude.{IfSome, not}
use Rattle.std.proofs.Math.Nat.{eq-or-lt_of_le}
use Rattle.std.proofs.lemmas.Bool.{and_from}
use Rattle.std.proofs.lemmas.List.{length-map}
use Rattle.std.proofs.lemmas.List.Elements.{All-contains}
use Rattle.prefsql_values.specs.Limits.{IsLiteralValue}
use Rattle.prefsql_values.specs.declared.value.Domain.TheVariants.{Integer}
use Rattle.prefsql_values.specs.declared.value.Domain.TheVariants as domain
use Rattle.prefsql_values.specs.declared.value.Value.{Value}
use Rattle.prefsql_values.specs.declared.value.Value.TheVariants.{Num, Str, Null}
use Rattle.prefsql_tables.specs.declared.place.ColumnPlace.{ColumnPlace}
use Rattle.prefsql_tables.specs.declared.place.SortKey.{SortKey}
use Rattle.order_laws.proofs.Members.{Among, Contains_from_among, among_back, among_either, among_filter, among_flat_mapped, among_from_Contains, among_front, among_kept, among_map, among_mapped, any_from, range_among}
use Rattle.pref_terms.specs.Equations.{leaves_of-Leaf, leaves_of-Pareto, leaves_of-Prior, leaves_of-Dual}
use Rattle.pref_terms.specs.Induction.{term_induction}
use Rattle.pref_terms.specs.Parts.{leaves_left}
use Rattle.pref_terms.specs.Terms.{leaves_of}
use Rattle.pref_terms.specs.declared.term.Leaf.{Leaf}
use Rattle.pref_terms.specs.declared.term.Term.{Term}
use Rattle.conditions.specs.Meaning.{scalars_of}
use Rattle.conditions.specs.declared.condition.Quality.{Quality}
use Rattle.conditions.specs.declared.condition.Scalar.{Scalar}
use Rattle.conditions.specs.declared.condition.Scalar.TheVariants as scalar
use Rattle.query_meaning.specs.BlockFits.{IsLeaf, IsPlace, columns_from}
use Rattle.query_meaning.specs.BlockFits as fits
use Rattle.query_meaning.specs.Valid.{AreNumbered, IsOutput, IsOverLeaves, IsValidBlock, IsValidLeaf, block_leaves, place_domain}
use Rattle.query_meaning.specs.declared.block.Block.{Block}
use Rattle.query_meaning.specs.declared.block.FromTable.{FromTable}
use Rattle.query_meaning.specs.declared.block.Output.{Output}
use Rattle.sql_tree.specs.declared.tree.SqlCond.{SqlCond, Not, Exists}
use Rattle.sql_tree.specs.declared.tree.SqlFrom.{SqlFrom}
use Rattle.sql_tree.specs.declared.tree.SqlItem.{SqlItem}
use Rattle.sql_tree.specs.declared.tree.SqlQuery.{SqlQuery}
use Rattle.sql_tree.specs.declared.tree.SqlScalar.{SqlScalar}
use Rattle.sql_tree.specs.declared.tree.SqlSource.{Derived}
use Rattle.sql_tree.specs.Shown.{ShownColumn, ShownItem, View}
use Rattle.sql_tree.specs.WellFormed.{JudgedFrom, JudgedSource, filter_well, is_name, judged_cond, judged_query, own_view}
use Rattle.rewritten_query.specs.Columns.{all_places, leaf_items, mentioned, number_among, own_column, place_eq, rank_column, trivial_column, used, used_items}
use Rattle.rewritten_query.specs.Conditions.{cond_put, conjunction, scalar_put}
use Rattle.rewritten_query.specs.Leaves.{number}
use Rattle.rewritten_query.specs.Names.{candidates_name, column_up, of_tables, rival_name, rivals_name}
use Rattle.rewritten_query.specs.Rankings.{group_cond, ranking_of}
use Rattle.rewritten_query.specs.Rewriting.{and_only, auxiliary_query, best_cond, best_query, output_items, own_place, own_quality, plain_query, quality_of_tables, rewritten, rewritten_by, rival_conds, rivals_query, table_items, where_over_tables}
use Rattle.written_query_validity.proofs.Auxiliary.{AreNumberedFrom, IsGoodLeaf, filtered_few, numbered_from, place_of_all}
use Rattle.written_query_validity.proofs.Columns as aux
use Rattle.written_query_validity.proofs.Columns.{place_eq-Decides}
use Rattle.written_query_validity.proofs.Formed.{Exists_formed, Formed, IsOf, Not_formed, both_formed, chars_of, count_of, number_of}
use Rattle.written_query_validity.proofs.Judgements.{judged_from, judged_from_is, judged_source-Derived}
use Rattle.written_query_validity.proofs.Names.{ColumnsDiffer, is_name_from, lettered_name}
use Rattle.written_query_validity.proofs.Put.{AreGood, IsGood, conjunction_formed, puts_formed}
use Rattle.written_query_validity.proofs.Queries.{IsItem, columns_shown, ordered, well_formed}
use Rattle.written_query_validity.proofs.Rivals.{HasColumns, no_shown, better_formed, candidates_shown, candidates_view, group_formed, own_column_of, rivals_shown, rivals_view}
use Rattle.written_query_validity.proofs.Tables.{table_column, table_view, tables_differ, tables_shown, tables_view, tables_well}

-- ---- places

-- a column of a FROM table is among all of them
all_places_have : (t : ℕ) (from : List FromTable) (p : ColumnPlace) → t ≤ p.table → p.table < t + length from → p.column < length (columns_from from (p.table - t)) → Among (all_places t from) p
all_places_have t [] p after before within = absurd (omega (arith, after, before))
all_places_have t (table ∷ from) p after before within =
    let place : ℕ → ColumnPlace = λ c. record { table = t; column = c } in
    let own = map place (range_with_len 0 (length table.schema.columns)) in
    elim (eq-or-lt_of_le after) [
      | inl same ↦
          let first : p.table - t ≡ 0 = omega (arith, same) in
          let small : p.column < length table.schema.columns = subst (λ k. p.column < length (columns_from (table ∷ from) k)) first within in
          let here : place p.column ≡ p = (λ j. record { table = same j; column = p.column }) in
          among_front own (all_places (t + 1) from) p (subst (Among own) here (among_mapped place (range_with_len 0 (length table.schema.columns)) p.column (range_among 0 (length table.schema.columns) p.column (omega arith) (omega (arith, small)))))
      | inr later ↦
          let next : p.table - t ≡ suc (p.table - (t + 1)) = omega (arith, later) in
          among_back own (all_places (t + 1) from) p
          (all_places_have (t + 1) from p (omega (arith, later)) (omega (arith, before)) (subst (λ k. p.column < length (columns_from (table ∷ from) k)) next within))
    ]

place_among_all : (from : List FromTable) (p : ColumnPlace) → IsPlace from p → Among (all_places 0 from) p
place_among_all from p is =
    let same : p.table ≡ p.table - 0 = omega arith in
    all_places_have 0 from p (omega arith) (omega (arith, is.table)) (subst (λ k. p.column < length (columns_from from k)) same is.column)

-- a column that is mentioned is used
mentioned_used : (block : Block) (t : Term) (p : ColumnPlace) → Among (mentioned block t) p → IsPlace block.from p → Among (used block t) p
mentioned_used block t p there is =
    among_filter (λ place. list_any (place_eq place) (mentioned block t)) (all_places 0 block.from) p (place_among_all block.from p is)
    (any_from (place_eq p) (mentioned block t) p there ((place_eq-Decides p p).1 refl))

used_place : (block : Block) (t : Term) (p : ColumnPlace) → Among (used block t) p → IsPlace block.from p
used_place block t p there = place_of_all block.from p (among_kept (λ place. list_any (place_eq place) (mentioned block t)) (all_places 0 block.from) p there).0

-- ---- terms

some_leaf : (t : Term) → 1 ≤ length (leaves_of t)
some_leaf = term_induction (λ t. 1 ≤ length (leaves_of t))
    (λ leaf. let count = ap length (leaves_of-Leaf leaf) in omega (arith, count))
    (λ p q p_some q_some. let count = ap length (leaves_of-Pareto p q) in let sum = length-append (leaves_of p) (leaves_of q) in omega (arith, count, sum, p_some))
    (λ p q p_some q_some. let count = ap length (leaves_of-Prior p q) in let sum = length-append (leaves_of p) (leaves_of q) in omega (arith, count, sum, p_some))
    (λ p some. let count = ap length (leaves_of-Dual p) in omega (arith, count, some))

leaf_items_some : (leaves : List Leaf) → length leaves ≤ length (flat_map leaf_items leaves)
leaf_items_some [] = omega arith
leaf_items_some (leaf ∷ leaves) = let more = leaf_items_some leaves in let joined = length-append (leaf_items leaf) (flat_map leaf_items leaves) in omega (arith, more, joined)

-- ---- items and sources

derived_read : (writing : Bool) (name : List ℕ) (query : SqlQuery) (columns : List ShownColumn) → (judged_query writing query []).columns ≡ columns
    → (judged_from writing (record { name = name; source = Derived query })).item ≡ record { name = name; columns = columns }
derived_read writing name query columns are =
    let from : SqlFrom = record { name = name; source = Derived query } in
    ap (λ (f : JudgedFrom). f.item) (judged_from_is writing from)
    ∙ (λ j. let item : ShownItem = record { name = name; columns = (ap (λ (s : JudgedSource). s.columns) (judged_source-Derived writing query) ∙ are) j } in item)

derived_well : (writing : Bool) (name : List ℕ) (query : SqlQuery) → is_name name ≡ true → (judged_query writing query []).well ≡ true → (judged_query writing query []).has_order ≡ false
    → (judged_from writing (record { name = name; source = Derived query })).well ≡ true
derived_well writing name query named well unordered =
    let from : SqlFrom = record { name = name; source = Derived query } in
    ap (λ (f : JudgedFrom). f.well) (judged_from_is writing from)
    ∙ and_from _ _ named (ap (λ (s : JudgedSource). s.well) (judged_source-Derived writing query) ∙ and_from _ _ well (ap not unordered))

one_from : (writing : Bool) (from : SqlFrom) → (judged_from writing from).well ≡ true → (f : SqlFrom) → Among (from ∷ []) f → (judged_from writing f).well ≡ true
one_from writing from well f (inl is) = ap (λ g. (judged_from writing g).well) (sym is) ∙ well
one_from writing from well f (inr none) = absurd none

table_items_length : (n : ℕ) (from : List FromTable) → length (table_items n from) ≡ length from
table_items_length n [] = refl
table_items_length n (table ∷ from) = ap suc (table_items_length (n + 1) from)

literal_good : (writing : Bool) (view : View) (from : List FromTable) (column : ColumnPlace → SqlScalar) (quality : Quality → SqlScalar) (v : Value) → IsLiteralValue v → IsGood writing view from column quality (scalar.Literal v)
literal_good writing view from column quality (Num n) is = (Integer, refl, number_of writing view n is)
literal_good writing view from column quality (Str text) is = (domain.Chars, refl, chars_of writing view text)
literal_good writing view from column quality Null is = absurd is

outputs_formed : (writing : Bool) (view : View) (from : List FromTable) (column : ColumnPlace → SqlScalar) (quality : Quality → SqlScalar) (leaves : List Leaf) (outputs : List Output)
    → ((output : Output) → Among outputs output → IsOutput leaves output × IsGood writing view from column quality output.scalar)
    → (item : SqlItem) → Among (output_items column quality outputs) item → IsItem writing view item
outputs_formed writing view from column quality leaves outputs each item there =
    let put : Output → SqlItem = λ output. record { value = scalar_put column quality output.scalar; name = output.name } in
    let found = among_map put outputs item there in
    let output = found.0 in
    let is = each output found.1 in
    subst (IsItem writing view) found.2 (record { name = is_name_from output.name is.0.name; value = is.1.2.well })

module _ (writing : Bool) (block : Block) (valid : IsValidBlock block) where
  -- ---- over the tables

  abbrev tables : View
  tables = tables_view block.from

  over_tables : (s : Scalar) → IsOverLeaves [] s → fits.IsScalar block.from s → IsGood writing tables block.from of_tables quality_of_tables s
  over_tables (scalar.Column place) over is = (place_domain block.from place, refl, table_column writing block.from valid.from place is)
  over_tables (scalar.Literal v) over is = literal_good writing tables block.from of_tables quality_of_tables v over
  over_tables (scalar.Quality quality) over is = absurd (omega (arith, over.2))

  where_good : AreGood writing tables block.from of_tables quality_of_tables (flat_map scalars_of block.filter)
  where_good s there =
      let has = Contains_from_among (flat_map scalars_of block.filter) s there in
      over_tables s (All-contains (IsOverLeaves []) _ s valid.filter.scalars has) (All-contains (fits.IsScalar block.from) _ s valid.places.filter has)

  where_formed : filter_well (option_map (judged_cond writing) (where_over_tables block)) tables ≡ true
  where_formed =
      conjunction_formed writing tables block.from of_tables quality_of_tables (map (cond_put of_tables quality_of_tables) block.filter)
      (puts_formed writing tables block.from of_tables quality_of_tables block.filter valid.filter.formed where_good)

  some_table : 1 ≤ length (table_items 1 block.from)
  some_table = let same = table_items_length 1 block.from in let some = valid.some_from in omega (arith, same, some)

  small_from : 1 + length block.from < 2 ^ 32
  small_from = let few = valid.few_from in omega (arith, few)

  keys_within : (column : ColumnPlace → SqlScalar) (quality : Quality → SqlScalar) (key : SortKey) → Among block.order key → key.column < length (output_items column quality block.output)
  keys_within column quality key there =
      let put : Output → SqlItem = λ output. record { value = scalar_put column quality output.scalar; name = output.name } in
      let within = All-contains (λ (k : SortKey). k.column < length block.output) block.order key valid.order (Contains_from_among block.order key there) in
      let same = length-map block.output put in
      omega (arith, within, same)

  some_output : (column : ColumnPlace → SqlScalar) (quality : Quality → SqlScalar) → 1 ≤ length (output_items column quality block.output)
  some_output column quality =
      let put : Output → SqlItem = λ output. record { value = scalar_put column quality output.scalar; name = output.name } in
      let same = length-map block.output put in
      let some = valid.some_output in
      omega (arith, same, some)

  output_is : (output : Output) → Among block.output output → IsOutput (block_leaves block) output
  output_is output there = All-contains (IsOutput (block_leaves block)) block.output output valid.output (Contains_from_among block.output output there)

  output_placed : (output : Output) → Among block.output output → fits.IsScalar block.from output.scalar
  output_placed output there = All-contains (λ (o : Output). fits.IsScalar block.from o.scalar) block.output output valid.places.output (Contains_from_among block.output output there)

  -- ---- without a preference

  plain_well : block.term ≡ None → (judged_query writing (plain_query block) []).well ≡ true
  plain_well none =
      let no_leaves : block_leaves block ≡ [] = ap leaves_left none in
      well_formed writing block.distinct (output_items of_tables quality_of_tables block.output) (table_items 1 block.from) (where_over_tables block) block.order []
      (tables_shown 1 block.from) (table_view writing 1 block.from)
      (some_output of_tables quality_of_tables)
      (outputs_formed writing tables block.from of_tables quality_of_tables (block_leaves block) block.output
      (λ output there. (output_is output there, over_tables output.scalar (subst (λ leaves. IsOverLeaves leaves output.scalar) no_leaves (output_is output there).scalar) (output_placed output there))))
      some_table (tables_well writing 1 block.from small_from valid.from) (tables_differ block.from valid.few_from) where_formed
      (keys_within of_tables quality_of_tables)

  -- ---- with a preference

  module _ (t : Term) (is : block.term ≡ Some t) where
    abbrev places : List ColumnPlace
    places = used block t

    abbrev leaves : List Leaf
    leaves = leaves_of t

    leaves_are : block_leaves block ≡ leaves
    leaves_are = ap leaves_left is

    placed : (p : ColumnPlace) → Among places p → IsPlace block.from p
    placed p there = used_place block t p there

    few_places : length places ≤ 512
    few_places = filtered_few (λ place. list_any (place_eq place) (mentioned block t)) block.from valid.from valid.few_from

    few_leaves : length leaves ≤ 8
    few_leaves = subst (λ ls. length ls ≤ 8) leaves_are valid.few_leaves

    numbered : AreNumberedFrom 1 leaves
    numbered = numbered_from 1 leaves (subst AreNumbered leaves_are valid.numbered)

    good : (leaf : Leaf) → Among leaves leaf → IsGoodLeaf block.from leaf
    good leaf there =
        let has = Contains_from_among leaves leaf there in
        let on_places : All (IsLeaf block.from) leaves = subst (λ o. IfSome o (λ term. All (IsLeaf block.from) (leaves_of term))) is valid.places.leaves in
        record {
          valid = All-contains (IsValidLeaf block.from) leaves leaf (subst (All (IsValidLeaf block.from)) leaves_are valid.leaves) has;
          placed = All-contains (IsLeaf block.from) leaves leaf on_places has;
        }

    abbrev items : List SqlItem
    items = aux.items writing block.from valid.from places placed few_places leaves good numbered few_leaves

    abbrev columns : List ShownColumn
    columns = aux.columns writing block.from valid.from places placed few_places leaves good numbered few_leaves

    apart : ColumnsDiffer columns
    apart = aux.columns_apart writing block.from valid.from places placed few_places leaves good numbered few_leaves

    -- ---- the auxiliary query

    some_item : 1 ≤ length items
    some_item =
        let leaf = some_leaf t in
        let more = leaf_items_some leaves in
        let joined = length-append (used_items 1 places) (flat_map leaf_items leaves) in
        omega (arith, leaf, more, joined)

    auxiliary_well : (judged_query writing (auxiliary_query block t) []).well ≡ true
    auxiliary_well =
        well_formed writing false items (table_items 1 block.from) (where_over_tables block) [] []
        (tables_shown 1 block.from) (table_view writing 1 block.from)
        some_item (aux.items_formed writing block.from valid.from places placed few_places leaves good numbered few_leaves)
        some_table (tables_well writing 1 block.from small_from valid.from) (tables_differ block.from valid.few_from) where_formed
        (λ key none. absurd none)

    auxiliary_columns : (judged_query writing (auxiliary_query block t) []).columns ≡ columns
    auxiliary_columns =
        columns_shown writing false items (table_items 1 block.from) (where_over_tables block) [] []
        (tables_shown 1 block.from) (table_view writing 1 block.from)

    auxiliary_unordered : (judged_query writing (auxiliary_query block t) []).has_order ≡ false
    auxiliary_unordered = ordered writing false items (table_items 1 block.from) (where_over_tables block) [] []

    -- a copy of it as a FROM item
    abbrev copy : List ℕ → SqlFrom
    copy name = record { name = name; source = Derived (auxiliary_query block t) }

    copy_well : (name : List ℕ) → is_name name ≡ true → (f : SqlFrom) → Among (copy name ∷ []) f → (judged_from writing f).well ≡ true
    copy_well name named = one_from writing (copy name) (derived_well writing name (auxiliary_query block t) named auxiliary_well auxiliary_unordered)

    copy_seen : (name : List ℕ) → own_view (map (judged_from writing) (copy name ∷ [])) ≡ record { name = name; columns = columns } ∷ []
    copy_seen name = λ j. derived_read writing name (auxiliary_query block t) columns auxiliary_columns j ∷ []

    -- ---- the conditions on a rival

    trivial_used : (leaf : Leaf) → Among leaves leaf → leaf.trivial ≡ true → Among places leaf.place
    trivial_used leaf there trivial =
        let here : Among (trivial_column leaf) leaf.place = subst (λ b. Among (cond b (leaf.place ∷ []) []) leaf.place) (sym trivial) (inl refl) in
        mentioned_used block t leaf.place
        (among_back _ (flat_map trivial_column leaves) leaf.place (among_flat_mapped trivial_column leaves leaf leaf.place there here))
        (good leaf there).placed.ranked.there

    within_used : (p : ColumnPlace) → Among places p → number_among places p < length columns
    within_used = aux.used_within writing block.from valid.from places placed few_places leaves good numbered few_leaves

    ranks_within : (leaf : Leaf) → Among leaves leaf → rank_column places leaves leaf.number + length (leaf_items leaf) ≤ length columns
    ranks_within = aux.rank_within writing block.from valid.from places placed few_places leaves good numbered few_leaves

    is_number : (k : ℕ) → length places ≤ k → k < length columns → (get_or columns k no_shown).shape.domain ≡ Integer
    is_number k = aux.rank_domain writing block.from valid.from places placed few_places leaves good numbered few_leaves k no_shown

    has_columns : (leaf : Leaf) → Among leaves leaf → HasColumns writing columns apart places leaves leaf
    has_columns leaf there = record {
      sound = (good leaf there).valid.sound;
      rank = ranks_within leaf there;
      code = λ within. is_number (rank_column places leaves leaf.number + 1) (omega arith) within;
      trivial = λ trivial. within_used leaf.place (trivial_used leaf there trivial);
    }

    group_used : (p : ColumnPlace) → Among block.groups p → Among places p
    group_used p there =
        mentioned_used block t p
        (among_front _ (flat_map trivial_column leaves) p (among_back _ block.groups p there))
        (All-contains (IsPlace block.from) block.groups p valid.places.groups (Contains_from_among block.groups p there))

    rival_formed : (c : SqlCond) → Among (rival_conds block t) c → Formed writing (rivals_view columns) c
    rival_formed c there = elim (among_either (map (group_cond places block.from) block.groups) ((ranking_of places leaves t).better ∷ []) c there) [
      | inl early ↦
          let found = among_map (group_cond places block.from) block.groups c early in
          ap (λ d. judged_cond writing d (rivals_view columns)) (sym found.2)
          ∙ group_formed writing columns apart places block.from found.0 (within_used found.0 (group_used found.0 found.1))
      | inr late ↦ elim late [
        | inl same ↦ ap (λ d. judged_cond writing d (rivals_view columns)) (sym same) ∙ better_formed writing columns apart places leaves t has_columns
        | inr none ↦ absurd none
      ]
    ]

    rival_item : (item : SqlItem) → Among (record { value = number 1; name = rival_name } ∷ []) item → IsItem writing (rivals_view columns) item
    rival_item item (inl same) =
        subst (IsItem writing (rivals_view columns)) same
        (record { name = lettered_name 88 1 (omega arith) (omega arith); value = (count_of writing (rivals_view columns) 1 (omega arith)).well })
    rival_item item (inr none) = absurd none

    rivals_well : (judged_query writing (rivals_query block t) (candidates_view columns)).well ≡ true
    rivals_well =
        well_formed writing false (record { value = number 1; name = rival_name } ∷ []) (copy rivals_name ∷ []) (conjunction (rival_conds block t)) [] (candidates_view columns)
        (rivals_shown columns ∷ []) (copy_seen rivals_name)
        (omega arith) rival_item (omega arith) (copy_well rivals_name (lettered_name 65 2 (omega arith) (omega arith))) refl
        (conjunction_formed writing (rivals_view columns) block.from of_tables quality_of_tables (rival_conds block t) rival_formed)
        (λ key none. absurd none)

    rivals_unordered : (judged_query writing (rivals_query block t) (candidates_view columns)).has_order ≡ false
    rivals_unordered = ordered writing false (record { value = number 1; name = rival_name } ∷ []) (copy rivals_name ∷ []) (conjunction (rival_conds block t)) [] (candidates_view columns)

    -- ---- over a candidate

    abbrev IsGoodHere : Scalar → Type 0
    IsGoodHere = IsGood writing (candidates_view columns) block.from (own_place block t) (own_quality block t)

    over_candidate : (s : Scalar) → IsOverLeaves (block_leaves block) s → fits.IsScalar block.from s → ((p : ColumnPlace) → Among (own_column s) p → Among (mentioned block t) p) → IsGoodHere s
    over_candidate (scalar.Column place) over there has =
        let here = mentioned_used block t place (has place (inl refl)) there in
        let k = number_among places place in (
          place_domain block.from place,
          refl,
          subst (λ d. IsOf writing (candidates_view columns) d (column_up 0 k)) (aux.used_domain writing block.from valid.from places placed few_places leaves good numbered few_leaves place no_shown here)
              (own_column_of writing columns apart k (within_used place here)),
        )
    over_candidate (scalar.Literal v) over there has = literal_good writing (candidates_view columns) block.from (own_place block t) (own_quality block t) v over
    over_candidate (scalar.Quality quality) over there has =
        let leaf = over.1 in
        let contains : Contains leaves leaf = subst (λ ls. Contains ls leaf) leaves_are (over.0, over.2, over.3) in
        let among = among_from_Contains leaves leaf contains in
        let number_is : rank_column places leaves leaf.number ≡ rank_column places leaves quality.leaf = ap (λ n. rank_column places leaves n) (sym over.4.number) in
        let k = rank_column places leaves quality.leaf in
        let within : k < length columns = (let width = ranks_within leaf among in omega (arith, width, number_is)) in (
          Integer,
          refl,
          subst (λ d. IsOf writing (candidates_view columns) d (column_up 0 k)) (is_number k (omega arith) within) (own_column_of writing columns apart k within),
        )

    only_good : AreGood writing (candidates_view columns) block.from (own_place block t) (own_quality block t) (flat_map scalars_of block.only)
    only_good s there =
        let scalars = flat_map scalars_of block.only in
        let has = Contains_from_among scalars s there in
        over_candidate s (All-contains (IsOverLeaves (block_leaves block)) scalars s valid.only.scalars has) (All-contains (fits.IsScalar block.from) scalars s valid.places.only has)
        (λ p own. among_front _ (flat_map trivial_column leaves) p (among_front _ block.groups p (among_back _ (flat_map own_column scalars) p (among_flat_mapped own_column scalars s p there own))))

    output_good : (output : Output) → Among block.output output → IsGoodHere output.scalar
    output_good output there =
        over_candidate output.scalar (output_is output there).scalar (output_placed output there)
        (λ p own. among_front _ (flat_map trivial_column leaves) p (among_front _ block.groups p (among_front _ (flat_map own_column (flat_map scalars_of block.only)) p
        (among_flat_mapped (λ (o : Output). own_column o.scalar) block.output output p there own))))

    only_formed : (cond : SqlCond) (only : Option SqlCond) → Formed writing (candidates_view columns) cond → filter_well (option_map (judged_cond writing) only) (candidates_view columns) ≡ true
        → Formed writing (candidates_view columns) (and_only cond only)
    only_formed cond None is_formed only_is = is_formed
    only_formed cond (Some only) is_formed only_is = both_formed writing (candidates_view columns) cond only is_formed only_is

    best_formed : Formed writing (candidates_view columns) (best_cond block t)
    best_formed =
        only_formed (Not (Exists (rivals_query block t))) (conjunction (map (cond_put (own_place block t) (own_quality block t)) block.only))
        (Not_formed writing (candidates_view columns) (Exists (rivals_query block t)) (Exists_formed writing (candidates_view columns) (rivals_query block t) rivals_well rivals_unordered))
        (conjunction_formed writing (candidates_view columns) block.from (own_place block t) (own_quality block t) (map (cond_put (own_place block t) (own_quality block t)) block.only)
        (puts_formed writing (candidates_view columns) block.from (own_place block t) (own_quality block t) block.only valid.only.formed only_good))

    best_well : (judged_query writing (best_query block t) []).well ≡ true
    best_well =
        well_formed writing block.distinct (output_items (own_place block t) (own_quality block t) block.output) (copy candidates_name ∷ []) (Some (best_cond block t)) block.order []
        (candidates_shown columns ∷ []) (copy_seen candidates_name)
        (some_output (own_place block t) (own_quality block t))
        (outputs_formed writing (candidates_view columns) block.from (own_place block t) (own_quality block t) (block_leaves block) block.output (λ output there. (output_is output there, output_good output there)))
        (omega arith) (copy_well candidates_name (lettered_name 65 1 (omega arith) (omega arith))) refl best_formed
        (keys_within (own_place block t) (own_quality block t))

  written_by : (o : Option Term) → block.term ≡ o → (judged_query writing (rewritten_by o block) []).well ≡ true
  written_by None is = plain_well is
  written_by (Some t) is = best_well t is

  pub written_well : (judged_query writing (rewritten block) []).well ≡ true
  unfolding rewritten
  written_well = written_by block.term refl
