-- The query that a block is written as names no table but those in the FROM of the block.
use Rattle.std.proofs.Common.{ℕ, ◌+◌, Bool, false, Option, Some, None, List, [], ◌∷◌, ◌++◌, map, All, refl, sym, subst, inl, inr}
use Rattle.std.specs.List.{flat_map}
use Rattle.std.specs.Option.{option_map}
use Rattle.std.proofs.lemmas.List.Elements.{All-cons, All-contains, All-nil}
use Rattle.prefsql_tables.specs.Table.{Tables}
use Rattle.prefsql_tables.specs.declared.place.ColumnPlace.{ColumnPlace}
use Rattle.order_laws.proofs.Members.{Among, Contains_from_among, among_either, among_flat_map, among_map}
use Rattle.base_prefs.specs.declared.kind.Kind.{Kind}
use Rattle.base_prefs.specs.declared.kind.Kind.TheVariants.{Pos, Neg, PosPos, PosNeg, Layered, Explicit, Around, Between, Lowest, Highest}
use Rattle.conditions.specs.declared.condition.Quality.{Quality}
use Rattle.pref_terms.specs.Terms.{leaves_of}
use Rattle.pref_terms.specs.declared.term.Leaf.{Leaf}
use Rattle.pref_terms.specs.declared.term.Term.{Term}
use Rattle.query_meaning.specs.BlockFits.{FitsTables as BlockFits, IsTableOf as IsTableIn}
use Rattle.query_meaning.specs.declared.block.Block.{Block}
use Rattle.query_meaning.specs.declared.block.FromTable.{FromTable}
use Rattle.query_meaning.specs.declared.block.Output.{Output}
use Rattle.sql_tree.specs.declared.tree.SqlCond.{SqlCond, Exists, Not}
use Rattle.sql_tree.specs.declared.tree.SqlFrom.{SqlFrom}
use Rattle.sql_tree.specs.declared.tree.SqlItem.{SqlItem}
use Rattle.sql_tree.specs.declared.tree.SqlQuery.{SqlQuery}
use Rattle.sql_tree.specs.declared.tree.SqlScalar.{SqlScalar}
use Rattle.sql_tree.specs.declared.tree.SqlSource.{Derived}
use Rattle.sql_tree.specs.declared.tree.SqlTable.{SqlTable}
use Rattle.sql_tree.specs.Fits.{cond_tables, from_tables, item_tables, FitsTables, IsTableOf, if_written, tables_of}
use Rattle.sql_tree.specs.Select.{select}
use Rattle.prefsql_tables.specs.declared.place.SortKey.{SortKey}
use Rattle.rewritten_query.specs.Columns.{auxiliary_items, code_items, leaf_items, number_among, rank_column, used, used_items}
use Rattle.rewritten_query.specs.Conditions.{cond_put, conjunction}
use Rattle.rewritten_query.specs.Leaves.{number}
use Rattle.rewritten_query.specs.Names.{candidates_name, of_tables, rival_name, rivals_name}
use Rattle.rewritten_query.specs.Rankings.{group_cond, ranking_of}
use Rattle.rewritten_query.specs.Rewriting.{and_only, auxiliary_query, best_cond, best_query, only_cond, output_items, own_place, own_quality, plain_query, quality_of_tables, rewritten, rewritten_by, rival_conds, rivals_query, table_item, table_items, where_over_tables}
use Rattle.written_query_validity.proofs.NamedParts.{InCond, InScalar, Only, better_in, both, both_in, code_in, column_in, conjunction_in, each, group_in, not_in, number_in, puts_in, rank_in, scalar_in}
use Rattle.written_query_validity.proofs.TablesRead.{tables-select}
use Rattle.sql_tree.proofs.PartTables.{tables-Derived, tables-Exists, tables-Table, tables-from, tables-item}

-- the table as FROM of the written query names it
abbrev named : FromTable → SqlTable
named table = record { index = table.index; name = table.name; schema = table.schema }

module _ (G : SqlTable → Type 0) where
  abbrev InItem : SqlItem → Type 0
  InItem item = InScalar G item.value

  abbrev InFrom : SqlFrom → Type 0
  InFrom from = Only G (from_tables from)

  abbrev InQuery : SqlQuery → Type 0
  InQuery query = Only G (tables_of query)

  abbrev InFilter : Option SqlCond → Type 0
  InFilter filter = Only G (if_written (option_map cond_tables filter))

  query_in : (distinct : Bool) (items : List SqlItem) (from : List SqlFrom) (filter : Option SqlCond) (order : List SortKey)
      → ((item : SqlItem) → Among items item → InItem item) → ((f : SqlFrom) → Among from f → InFrom f) → InFilter filter
      → InQuery (select distinct items from filter order)
  query_in distinct items from filter order items_in froms_in filter_in =
      subst (Only G) (sym (tables-select distinct items from filter order))
      (both G (flat_map item_tables items ++ flat_map from_tables from) (if_written (option_map cond_tables filter))
      (both G (flat_map item_tables items) (flat_map from_tables from)
      (each G item_tables items (λ item there. subst (Only G) (sym (tables-item item)) (items_in item there)))
      (each G from_tables from froms_in))
      filter_in)

  derived_in : (name : List ℕ) (query : SqlQuery) → InQuery query → (f : SqlFrom) → Among (record { name = name; source = Derived query } ∷ []) f → InFrom f
  derived_in name query query_is f (inl is) = subst InFrom is (subst (Only G) (sym (tables-from (record { name = name; source = Derived query }))) (subst (Only G) (sym (tables-Derived query)) query_is))
  derived_in name query query_is f (inr past) = absurd past

  -- ---- the FROM tables

  table_in : (n : ℕ) (table : FromTable) → G (named table) → InFrom (table_item n table)
  table_in n table is =
      subst (Only G) (sym (tables-from (table_item n table))) (subst (Only G) (sym (tables-Table (named table))) (λ t there. elim there [ inl same ↦ subst G same is | inr past ↦ absurd past ]))

  tables_in : (n : ℕ) (from : List FromTable) → ((table : FromTable) → Among from table → G (named table)) → (f : SqlFrom) → Among (table_items n from) f → InFrom f
  tables_in n [] are f there = absurd there
  tables_in n (table ∷ from) are f (inl is) = subst InFrom is (table_in n table (are table (inl refl)))
  tables_in n (table ∷ from) are f (inr more) = tables_in (n + 1) from (λ other there. are other (inr there)) f more

  -- ---- items and conditions

  of_tables_in : (place : ColumnPlace) → InScalar G (of_tables place)
  of_tables_in place = column_in G (record { up = 0; item = place.table; column = place.column })

  quality_in : (quality : Quality) → InScalar G (quality_of_tables quality)
  quality_in quality = rank_in G (of_tables quality.place) (of_tables_in quality.place) quality.base

  where_in : (block : Block) → InFilter (where_over_tables block)
  where_in block = conjunction_in G (map (cond_put of_tables quality_of_tables) block.filter) (puts_in G of_tables quality_of_tables of_tables_in quality_in block.filter)

  output_in : (column : ColumnPlace → SqlScalar) (quality : Quality → SqlScalar) → ((place : ColumnPlace) → InScalar G (column place)) → ((q : Quality) → InScalar G (quality q))
      → (output : List Output) (item : SqlItem) → Among (output_items column quality output) item → InItem item
  output_in column quality columns_in qualities_in output item there =
      let found = among_map _ output item there in
      subst InItem found.2 (scalar_in G column quality columns_in qualities_in found.0.scalar)

  used_in : (n : ℕ) (places : List ColumnPlace) (item : SqlItem) → Among (used_items n places) item → InItem item
  used_in n [] item there = absurd there
  used_in n (place ∷ places) item (inl is) = subst InItem is (of_tables_in place)
  used_in n (place ∷ places) item (inr more) = used_in (n + 1) places item more

  codes_in : (kind : Kind) (place : ColumnPlace) (n : ℕ) (item : SqlItem) → Among (code_items kind place n) item → InItem item
  codes_in (Explicit g) place n item (inl is) = subst InItem is (code_in G (of_tables place) (of_tables_in place) g.edges)
  codes_in (Explicit g) place n item (inr past) = absurd past
  codes_in (Pos s) place n item there = absurd there
  codes_in (Neg s) place n item there = absurd there
  codes_in (PosPos s t) place n item there = absurd there
  codes_in (PosNeg s t) place n item there = absurd there
  codes_in (Layered before after) place n item there = absurd there
  codes_in (Around z) place n item there = absurd there
  codes_in (Between low up) place n item there = absurd there
  codes_in Lowest place n item there = absurd there
  codes_in Highest place n item there = absurd there

  leaf_in : (leaf : Leaf) (item : SqlItem) → Among (leaf_items leaf) item → InItem item
  leaf_in leaf item (inl is) = subst InItem is (rank_in G (of_tables leaf.place) (of_tables_in leaf.place) leaf.base)
  leaf_in leaf item (inr more) = codes_in leaf.base leaf.place leaf.number item more

  auxiliary_items_in : (places : List ColumnPlace) (leaves : List Leaf) (item : SqlItem) → Among (auxiliary_items places leaves) item → InItem item
  auxiliary_items_in places leaves item there = elim (among_either (used_items 1 places) (flat_map leaf_items leaves) item there) [
    | inl early ↦ used_in 1 places item early
    | inr late ↦ let found = among_flat_map leaf_items leaves item late in leaf_in found.0 item found.2
  ]

  -- ---- the written query

  module _ (block : Block) (are : (table : FromTable) → Among block.from table → G (named table)) where
    plain_in : InQuery (plain_query block)
    plain_in =
        query_in block.distinct (output_items of_tables quality_of_tables block.output) (table_items 1 block.from) (where_over_tables block) block.order
        (output_in of_tables quality_of_tables of_tables_in quality_in block.output) (tables_in 1 block.from are) (where_in block)

    module _ (term : Term) where
      auxiliary_in : InQuery (auxiliary_query block term)
      auxiliary_in =
          query_in false (auxiliary_items (used block term) (leaves_of term)) (table_items 1 block.from) (where_over_tables block) []
          (auxiliary_items_in (used block term) (leaves_of term)) (tables_in 1 block.from are) (where_in block)

      rival_conds_in : (c : SqlCond) → Among (rival_conds block term) c → InCond G c
      rival_conds_in c there =
          let better = (ranking_of (used block term) (leaves_of term) term).better in
          elim (among_either (map (group_cond (used block term) block.from) block.groups) (better ∷ []) c there) [
            | inl early ↦ let found = among_map (group_cond (used block term) block.from) block.groups c early in subst (InCond G) found.2 (group_in G (used block term) block.from found.0)
            | inr late ↦ elim late [ inl is ↦ subst (InCond G) is (better_in G (used block term) (leaves_of term) term) | inr past ↦ absurd past ]
          ]

      rivals_in : InQuery (rivals_query block term)
      rivals_in =
          query_in false (record { value = number 1; name = rival_name } ∷ []) (record { name = rivals_name; source = Derived (auxiliary_query block term) } ∷ []) (conjunction (rival_conds block term)) []
          (λ item there. elim there [ inl is ↦ subst InItem is (number_in G 1) | inr past ↦ absurd past ])
          (derived_in rivals_name (auxiliary_query block term) auxiliary_in)
          (conjunction_in G (rival_conds block term) rival_conds_in)

      own_place_in : (place : ColumnPlace) → InScalar G (own_place block term place)
      own_place_in place = column_in G (record { up = 0; item = 0; column = number_among (used block term) place })

      own_quality_in : (q : Quality) → InScalar G (own_quality block term q)
      own_quality_in q = column_in G (record { up = 0; item = 0; column = rank_column (used block term) (leaves_of term) q.leaf })

      no_rival_in : InCond G (Not (Exists (rivals_query block term)))
      no_rival_in = not_in G (Exists (rivals_query block term)) (subst (Only G) (sym (tables-Exists (rivals_query block term))) rivals_in)

      and_only_in : (c : SqlCond) (only : Option SqlCond) → InCond G c → InFilter only → InCond G (and_only c only)
      and_only_in c None c_in only_in = c_in
      and_only_in c (Some only) c_in only_in = both_in G c only c_in only_in

      only_in : InFilter (only_cond block term)
      only_in =
          conjunction_in G (map (cond_put (own_place block term) (own_quality block term)) block.only)
          (puts_in G (own_place block term) (own_quality block term) own_place_in own_quality_in block.only)

      best_in : InQuery (best_query block term)
      best_in =
          query_in block.distinct (output_items (own_place block term) (own_quality block term) block.output) (record { name = candidates_name; source = Derived (auxiliary_query block term) } ∷ []) (Some (best_cond block term)) block.order
          (output_in (own_place block term) (own_quality block term) own_place_in own_quality_in block.output)
          (derived_in candidates_name (auxiliary_query block term) auxiliary_in)
          (and_only_in (Not (Exists (rivals_query block term))) (only_cond block term) no_rival_in only_in)

    by_term : (term : Option Term) → InQuery (rewritten_by term block)
    by_term None = plain_in
    by_term (Some term) = best_in term

    -- what holds of each FROM table holds of each table that the written query names
    written_in : InQuery (rewritten block)
    unfolding rewritten
    written_in = by_term block.term

all_from_each : {X : Type 0} (P : X → Type 0) (xs : List X) → ((x : X) → Among xs x → P x) → All P xs
all_from_each P [] holds = All-nil P
all_from_each P (x ∷ xs) holds = All-cons P x xs (holds x (inl refl)) (all_from_each P xs (λ other there. holds other (inr there)))

pub written_fits : (tables : Tables) (block : Block) → BlockFits tables block → FitsTables tables (rewritten block)
written_fits tables block fits =
    all_from_each (IsTableOf tables) (tables_of (rewritten block))
    (written_in (IsTableOf tables) block (λ table there. All-contains (IsTableIn tables) block.from table fits (Contains_from_among block.from table there)))
