-- The text of the query that a valid block is written as nests at most 256 deep.
use Rattle.std.proofs.Common.{◌≡◌, ℕ, ◌+◌, ◌*◌, ◌≤◌, false, Option, Some, None, List, [], ◌∷◌, map, length, refl, ap, subst, arith, inl, inr}
use Rattle.std.specs.List.{flat_map}
use Rattle.std.specs.Option.{option_map}
use Rattle.std.proofs.lemmas.List.Elements.{All-contains}
use Rattle.prefsql_values.specs.Nesting.{after_not, alone, wraps_not}
use Rattle.prefsql_tables.specs.declared.place.ColumnPlace.{ColumnPlace}
use Rattle.order_laws.proofs.Members.{Among, Contains_from_among, among_either, among_flat_map, among_map}
use Rattle.base_prefs.specs.declared.kind.Kind.{Kind}
use Rattle.base_prefs.specs.declared.kind.Kind.TheVariants.{Pos, Neg, PosPos, PosNeg, Layered, Explicit, Around, Between, Lowest, Highest}
use Rattle.pref_terms.specs.Parts.{leaves_left}
use Rattle.pref_terms.specs.Terms.{leaves_of}
use Rattle.pref_terms.specs.declared.term.Leaf.{Leaf}
use Rattle.pref_terms.specs.declared.term.Term.{Term}
use Rattle.conditions.specs.Meaning.{scalars_of}
use Rattle.conditions.specs.declared.condition.Quality.{Quality}
use Rattle.conditions.specs.declared.condition.Scalar.{Scalar}
use Rattle.conditions.specs.declared.condition.Scalar.TheVariants as scalar
use Rattle.query_meaning.specs.Valid.{IsOutput, IsOverLeaves, IsValidBlock, block_leaves}
use Rattle.query_meaning.specs.declared.block.Block.{Block}
use Rattle.query_meaning.specs.declared.block.FromTable.{FromTable}
use Rattle.query_meaning.specs.declared.block.Output.{Output}
use Rattle.sql_tree.specs.declared.tree.SqlCond.{SqlCond, Not, Exists}
use Rattle.sql_tree.specs.declared.tree.SqlFrom.{SqlFrom}
use Rattle.sql_tree.specs.declared.tree.SqlItem.{SqlItem}
use Rattle.sql_tree.specs.declared.tree.SqlScalar.{SqlScalar}
use Rattle.sql_tree.specs.Nesting.{nesting, where_depth}
use Rattle.rewritten_query.specs.Columns.{auxiliary_items, code_items, leaf_items, number_among, rank_column, used, used_items}
use Rattle.rewritten_query.specs.Conditions.{cond_put, conjunction, scalar_put}
use Rattle.rewritten_query.specs.Leaves.{number}
use Rattle.rewritten_query.specs.Names.{candidates_name, of_tables, rival_name, rivals_name}
use Rattle.rewritten_query.specs.Rankings.{group_cond, ranking_of}
use Rattle.rewritten_query.specs.Rewriting.{and_only, auxiliary_query, best_cond, best_query, output_items, own_place, own_quality, plain_query, quality_of_tables, rewritten, rewritten_by, rival_conds, rivals_query, table_item, table_items, where_over_tables}
use Rattle.written_query_validity.proofs.Depths.{cond_depth, depth-Column, depth-Exists, depth-Not, from_depth, from_depth_is, scalar_depth, source_depth-Table}
use Rattle.written_query_validity.proofs.RankDepths.{IsShallow, both_shallow, code_depth, conjunction_shallow, count_depth, deeper, derived_depth, kept_literal_depth, rank_depth, select_depth, wrapped_more}
use Rattle.written_query_validity.proofs.CondDepths.{AreFlat, better_shallow, column_up_depth, group_shallow, puts_alone, puts_shallow}

tables_depth : (n k : ℕ) (from : List FromTable) (f : SqlFrom) → Among (table_items n from) f → from_depth f ≤ k
tables_depth n k [] f there = absurd there
tables_depth n k (table ∷ from) f (inl same) =
    subst (λ g. from_depth g ≤ k) same (omega (arith, from_depth_is (table_item n table), source_depth-Table (record { index = table.index; name = table.name; schema = table.schema })))
tables_depth n k (table ∷ from) f (inr more) = tables_depth (n + 1) k from f more

of_tables_depth : (place : ColumnPlace) → scalar_depth (of_tables place) ≡ 0
of_tables_depth place = depth-Column (record { up = 0; item = place.table; column = place.column })

-- ---- the items of the auxiliary query

used_depth : (n : ℕ) (places : List ColumnPlace) (item : SqlItem) → Among (used_items n places) item → scalar_depth item.value ≤ 3
used_depth n [] item there = absurd there
used_depth n (p ∷ places) item (inl same) = subst (λ (i : SqlItem). scalar_depth i.value ≤ 3) same (omega (arith, of_tables_depth p))
used_depth n (p ∷ places) item (inr more) = used_depth (n + 1) places item more

codes_depth : (kind : Kind) (place : ColumnPlace) (n : ℕ) (item : SqlItem) → Among (code_items kind place n) item → scalar_depth item.value ≤ 3
codes_depth (Explicit g) place n item (inl same) = subst (λ (i : SqlItem). scalar_depth i.value ≤ 3) same (code_depth (of_tables place) (of_tables_depth place) g.edges)
codes_depth (Explicit g) place n item (inr none) = absurd none
codes_depth (Pos s) place n item there = absurd there
codes_depth (Neg s) place n item there = absurd there
codes_depth (PosPos s t) place n item there = absurd there
codes_depth (PosNeg s t) place n item there = absurd there
codes_depth (Layered before after) place n item there = absurd there
codes_depth (Around z) place n item there = absurd there
codes_depth (Between low up) place n item there = absurd there
codes_depth Lowest place n item there = absurd there
codes_depth Highest place n item there = absurd there

leaf_depth : (leaf : Leaf) (item : SqlItem) → Among (leaf_items leaf) item → scalar_depth item.value ≤ 3
leaf_depth leaf item (inl same) = subst (λ (i : SqlItem). scalar_depth i.value ≤ 3) same (rank_depth (of_tables leaf.place) (of_tables_depth leaf.place) leaf.base)
leaf_depth leaf item (inr more) = codes_depth leaf.base leaf.place leaf.number item more

auxiliary_depth : (places : List ColumnPlace) (leaves : List Leaf) (item : SqlItem) → Among (auxiliary_items places leaves) item → scalar_depth item.value ≤ 3
auxiliary_depth places leaves item there = elim (among_either (used_items 1 places) (flat_map leaf_items leaves) item there) [
  | inl early ↦ used_depth 1 places item early
  | inr late ↦ (let found = among_flat_map leaf_items leaves item late in leaf_depth found.0 item found.2)
]

-- ---- the scalars of a block

outputs_depth : (n : ℕ) (column : ColumnPlace → SqlScalar) (quality : Quality → SqlScalar) (outputs : List Output) → ((output : Output) → Among outputs output → scalar_depth (scalar_put column quality output.scalar) ≤ n)
    → (item : SqlItem) → Among (output_items column quality outputs) item → scalar_depth item.value ≤ n
outputs_depth n column quality outputs each item there =
    let put : Output → SqlItem = λ output. record { value = scalar_put column quality output.scalar; name = output.name } in
    let found = among_map put outputs item there in
    subst (λ (i : SqlItem). scalar_depth i.value ≤ n) found.2 (each found.0 found.1)

over_tables_depth : (leaves : List Leaf) (s : Scalar) → IsOverLeaves leaves s → scalar_depth (scalar_put of_tables quality_of_tables s) ≤ 3
over_tables_depth leaves (scalar.Column place) over = omega (arith, of_tables_depth place)
over_tables_depth leaves (scalar.Literal v) over = let small = kept_literal_depth v over in omega (arith, small)
over_tables_depth leaves (scalar.Quality q) over = rank_depth (of_tables q.place) (of_tables_depth q.place) q.base

flat_over_tables : (s : Scalar) → IsOverLeaves [] s → scalar_depth (scalar_put of_tables quality_of_tables s) ≤ 0
flat_over_tables (scalar.Column place) over = omega (arith, of_tables_depth place)
flat_over_tables (scalar.Literal v) over = kept_literal_depth v over
flat_over_tables (scalar.Quality q) over = absurd (omega (arith, over.2))

module _ (block : Block) (valid : IsValidBlock block) where
  where_shallow : where_depth (option_map cond_depth (where_over_tables block)) ≤ 64
  where_shallow =
      let flat : AreFlat of_tables quality_of_tables (flat_map scalars_of block.filter) =
      (λ s there. flat_over_tables s (All-contains (IsOverLeaves []) (flat_map scalars_of block.filter) s valid.filter.scalars (Contains_from_among (flat_map scalars_of block.filter) s there)))
      in
      let same = puts_alone of_tables quality_of_tables block.filter flat in
      let small = valid.filter.nested in
      omega (arith, same, small)

  output_over : (output : Output) → Among block.output output → IsOverLeaves (block_leaves block) output.scalar
  output_over output there = (All-contains (IsOutput (block_leaves block)) block.output output valid.output (Contains_from_among block.output output there)).scalar

  plain_depth : nesting (plain_query block) ≤ 256
  plain_depth =
      select_depth 256 block.distinct (output_items of_tables quality_of_tables block.output) (table_items 1 block.from) (where_over_tables block) block.order
      (outputs_depth 256 of_tables quality_of_tables block.output (λ output there. let small = over_tables_depth (block_leaves block) output.scalar (output_over output there) in omega (arith, small)))
      (tables_depth 1 256 block.from)
      (omega (arith, where_shallow))

  module _ (t : Term) (is : block.term ≡ Some t) where
    abbrev places : List ColumnPlace
    places = used block t

    abbrev leaves : List Leaf
    leaves = leaves_of t

    few_leaves : length leaves ≤ 8
    few_leaves = subst (λ ls. length ls ≤ 8) (ap leaves_left is) valid.few_leaves

    auxiliary_shallow : nesting (auxiliary_query block t) ≤ 64
    auxiliary_shallow =
        select_depth 64 false (auxiliary_items places leaves) (table_items 1 block.from) (where_over_tables block) []
        (λ item there. let small = auxiliary_depth places leaves item there in omega (arith, small)) (tables_depth 1 64 block.from) where_shallow

    rival_shallow : (c : SqlCond) → Among (rival_conds block t) c → IsShallow 24 c
    rival_shallow c there = elim (among_either (map (group_cond places block.from) block.groups) ((ranking_of places leaves t).better ∷ []) c there) [
      | inl early ↦
          let found = among_map (group_cond places block.from) block.groups c early in
          subst (IsShallow 24) found.2 (deeper 2 24 (group_cond places block.from found.0) (omega arith) (group_shallow places block.from found.0))
      | inr late ↦ elim late [
        | inl same ↦ subst (IsShallow 24) same (deeper (3 * length leaves) 24 (ranking_of places leaves t).better (let few = few_leaves in omega (arith, few)) (better_shallow places leaves t))
        | inr none ↦ absurd none
      ]
    ]

    rival_value : (item : SqlItem) → Among (record { value = number 1; name = rival_name } ∷ []) item → scalar_depth item.value ≤ 65
    rival_value item (inl same) = subst (λ (i : SqlItem). scalar_depth i.value ≤ 65) same (omega (arith, count_depth 1))
    rival_value item (inr none) = absurd none

    rivals_shallow : nesting (rivals_query block t) ≤ 65
    rivals_shallow =
        select_depth 65 false (record { value = number 1; name = rival_name } ∷ []) _ (conjunction (rival_conds block t)) []
        rival_value (derived_depth 64 rivals_name (auxiliary_query block t) auxiliary_shallow)
        (let inner = conjunction_shallow 24 (rival_conds block t) rival_shallow in omega (arith, inner))

    none_better : IsShallow 67 (Not (Exists (rivals_query block t)))
    none_better standing =
        let inner = rivals_shallow in
        omega (arith, depth-Not (Exists (rivals_query block t)) standing, wrapped_more (wraps_not standing) (cond_depth (Exists (rivals_query block t)) after_not), depth-Exists (rivals_query block t) after_not, inner)

    own_flat : (s : Scalar) → IsOverLeaves (block_leaves block) s → scalar_depth (scalar_put (own_place block t) (own_quality block t) s) ≤ 0
    own_flat (scalar.Column place) over = omega (arith, column_up_depth 0 (number_among places place))
    own_flat (scalar.Literal v) over = kept_literal_depth v over
    own_flat (scalar.Quality q) over = omega (arith, column_up_depth 0 (rank_column places leaves q.leaf))

    only_flat : AreFlat (own_place block t) (own_quality block t) (flat_map scalars_of block.only)
    only_flat s there = own_flat s (All-contains (IsOverLeaves (block_leaves block)) (flat_map scalars_of block.only) s valid.only.scalars (Contains_from_among (flat_map scalars_of block.only) s there))

    with_only : (cond : SqlCond) (only : Option SqlCond) → IsShallow 67 cond → ((o : SqlCond) → only ≡ Some o → IsShallow 65 o) → IsShallow 68 (and_only cond only)
    with_only cond None is_shallow only_is = deeper 67 68 cond (omega arith) is_shallow
    with_only cond (Some only) is_shallow only_is = both_shallow 67 cond only is_shallow (deeper 65 67 only (omega arith) (only_is only refl))

    best_shallow : IsShallow 68 (best_cond block t)
    best_shallow =
        with_only (Not (Exists (rivals_query block t))) (conjunction (map (cond_put (own_place block t) (own_quality block t)) block.only)) none_better
        (puts_shallow (own_place block t) (own_quality block t) 64 block.only only_flat valid.only.nested)

    best_depth : nesting (best_query block t) ≤ 256
    best_depth =
        select_depth 256 block.distinct (output_items (own_place block t) (own_quality block t) block.output) _ (Some (best_cond block t)) block.order
        (outputs_depth 256 (own_place block t) (own_quality block t) block.output (λ output there. let small = own_flat output.scalar (output_over output there) in omega (arith, small)))
        (λ f there. let small = derived_depth 64 candidates_name (auxiliary_query block t) auxiliary_shallow f there in omega (arith, small))
        (let small = best_shallow alone in omega (arith, small))

  depth_by : (o : Option Term) → block.term ≡ o → nesting (rewritten_by o block) ≤ 256
  depth_by None is = plain_depth
  depth_by (Some t) is = best_depth t is

  pub written_depth : nesting (rewritten block) ≤ 256
  unfolding rewritten
  written_depth = depth_by block.term refl
