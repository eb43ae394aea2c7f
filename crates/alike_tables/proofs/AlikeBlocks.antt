-- Over tables with the same names in the same order and equal columns the statements of a script have the same blocks, or the same
-- first fault.
use Rattle.std.proofs.Common.{◌≡◌, ℕ, ◌+◌, Option, Some, None, List, [], ◌∷◌, ◌++◌, map, refl, ap, ◌∙◌, subst, inl, inr}
use Rattle.std.specs.Prelude.{unwrap_or}
use Rattle.prefsql_lexer.specs.declared.fault.Spot.{Spot}
use Rattle.prefsql_tables.specs.Table.{Tables}
use Rattle.prefsql_tables.specs.Valid.{IsAlike}
use Rattle.pref_terms.specs.declared.term.Leaf.{Leaf}
use Rattle.conditions.specs.declared.condition.Scalar.TheVariants as resolved
use Rattle.conditions.specs.declared.condition.Cond.{Cond}
use Rattle.conditions.specs.declared.condition.Cond as cond
use Rattle.query_meaning.specs.Conjuncts.{conjuncts}
use Rattle.query_meaning.specs.declared.block.Block.{Block}
use Rattle.query_meaning.specs.declared.block.FromTable.{FromTable}
use Rattle.query_meaning.specs.declared.block.Output.{Output}
use Rattle.query_tree.specs.declared.name.NameTree.{NameTree}
use Rattle.query_tree.specs.declared.condition.ScalarTree.{ScalarTree}
use Rattle.query_tree.specs.declared.condition.ScalarTree.TheVariants as scalar
use Rattle.query_tree.specs.declared.condition.CondTree.{CondTree, fold-CondTree}
use Rattle.query_tree.specs.declared.condition.CondTree.TheOpen.{CondTree-F}
use Rattle.query_tree.specs.declared.preference.BaseTree.{BaseTree}
use Rattle.query_tree.specs.declared.query.FromTree.{FromTree}
use Rattle.query_tree.specs.declared.query.ItemTree.{ItemTree}
use Rattle.query_tree.specs.declared.query.QueryTree.{QueryTree}
use Rattle.query_tree.specs.declared.query.SelectTree.{SelectTree}
use Rattle.query_tree.specs.declared.query.SelectTree.TheVariants as select
use Rattle.query_typing.specs.declared.quality.Wanted.{Wanted}
use Rattle.query_typing.specs.declared.quality.Wanted.TheVariants.{Level, Distance, Either}
use Rattle.query_typing.specs.Columns.{column_of, place_found}
use Rattle.query_typing.specs.Leaves.{bases_if}
use Rattle.query_typing.specs.Obligations.{AllClausesMet, IsFirstFault}
use Rattle.query_typing.specs.Resolution.{AreLeavesOf, IsLeafOf, all_outputs, column_outputs, from_table, item_outputs, order_key, outputs, places_once, quality_of, resolved_block, resolved_cond, resolved_conjuncts, resolved_quality, resolved_scalar, resolved_step, term_if}
use Rattle.query_typing.specs.Statements.{item_name}
use Rattle.query_typing.specs.Typing.{AreTyped, IsFirstOfScript, IsTyped}
use Rattle.alike_tables.proofs.AlikeTables.{fits_other, place_same}
use Rattle.alike_tables.proofs.AlikeObligations.{column_same, item_columns_same, output_names_same, statement_owes}

module _ (tables others : Tables) (alike : IsAlike tables others) where
  module _ (from : List FromTree) where
    place_found_same : (name : NameTree) → place_found (column_of tables from name) ≡ place_found (column_of others from name)
    place_found_same name = ap place_found (column_same tables others alike from name)

    leaf_is : (number : ℕ) (base : BaseTree) (leaf : Leaf) → IsLeafOf tables from number base leaf → IsLeafOf others from number base leaf
    leaf_is number base leaf is = record { numbered = is.numbered; place = is.place ∙ place_found_same base.column; base = is.base; trivial = is.trivial }

    leaves_are : (number : ℕ) (bases : List BaseTree) (leaves : List Leaf) → AreLeavesOf tables from number bases leaves → AreLeavesOf others from number bases leaves
    leaves_are number [] [] are = are
    leaves_are number [] (leaf ∷ leaves) are = are
    leaves_are number (base ∷ bases) [] are = are
    leaves_are number (base ∷ bases) (leaf ∷ leaves) are = (leaf_is number base leaf are.0, leaves_are (number + 1) bases leaves are.1)

    module _ (leaves : List Leaf) where
      quality_same : (wanted : Wanted) (name : NameTree) → resolved_quality tables from leaves wanted name ≡ resolved_quality others from leaves wanted name
      quality_same wanted name = ap (λ place. quality_of wanted place leaves) (place_found_same name)

      scalar_same : (s : ScalarTree) → resolved_scalar tables from leaves s ≡ resolved_scalar others from leaves s
      scalar_same (scalar.Column name) = ap resolved.Column (place_found_same name)
      scalar_same (scalar.Literal literal) = refl
      scalar_same (scalar.Level name word) = ap resolved.Quality (quality_same Level name)
      scalar_same (scalar.Distance name word) = ap resolved.Quality (quality_same Distance name)

      step_same : (layer : CondTree-F Cond) → resolved_step tables from leaves layer ≡ resolved_step others from leaves layer
      step_same (CondTree-F.And parts) = refl
      step_same (CondTree-F.Or parts) = refl
      step_same (CondTree-F.Not part) = refl
      step_same (CondTree-F.Compare op a b) = λ j. cond.Compare op (scalar_same a j) (scalar_same b j)
      step_same (CondTree-F.Between negated a low high) = λ j. cond.Between negated (scalar_same a j) (scalar_same low j) (scalar_same high j)
      step_same (CondTree-F.OneOf negated a list) = λ j. cond.OneOf negated (scalar_same a j) (map (λ b. scalar_same b j) list)
      step_same (CondTree-F.IsNull negated a) = λ j. cond.IsNull negated (scalar_same a j)
      step_same (CondTree-F.Top name) = λ j. cond.Top (quality_same Either name j)

      cond_same : (c : CondTree) → resolved_cond tables from leaves c ≡ resolved_cond others from leaves c
      unfolding resolved_cond
      cond_same c = λ j. fold-CondTree Cond (λ layer. step_same layer j) c

      conjuncts_same : (c : Option CondTree) → resolved_conjuncts tables from leaves c ≡ resolved_conjuncts others from leaves c
      conjuncts_same None = refl
      conjuncts_same (Some c) = ap conjuncts (cond_same c)

      items_same : (position : ℕ) (items : List ItemTree) → item_outputs tables from leaves position items ≡ item_outputs others from leaves position items
      items_same position [] = refl
      items_same position (item ∷ items) = λ j.
          let output : Output = record { name = item_name position item; scalar = scalar_same item.value j } in
          output ∷ items_same (position + 1) items j

      outputs_same : (s : SelectTree) → outputs tables from leaves s ≡ outputs others from leaves s
      outputs_same select.All = all_same 0 from
        where
          all_same : (table : ℕ) (items : List FromTree) → all_outputs tables table items ≡ all_outputs others table items
          all_same table [] = refl
          all_same table (item ∷ items) = λ j. column_outputs table 0 (item_columns_same tables others alike item j) ++ all_same (table + 1) items j
      outputs_same (select.Items items) = items_same 1 items

  from_table_same : (item : FromTree) → from_table tables item ≡ from_table others item
  from_table_same item = λ j.
      let table : FromTable = record { index = unwrap_or (place_same tables others alike item.table j) 0; name = item.table; schema = record { columns = item_columns_same tables others alike item j } } in
      table

  block_same : (query : QueryTree) (leaves : List Leaf) → resolved_block tables query leaves ≡ resolved_block others query leaves
  unfolding resolved_block
  block_same query leaves = λ j.
      let block : Block = record {
        distinct = query.distinct;
        output = outputs_same query.from leaves query.select j;
        from = map (λ item. from_table_same item j) query.from;
        filter = conjuncts_same query.from leaves query.filter j;
        term = term_if query.prefer leaves;
        groups = places_once (map (λ name. place_found_same query.from name j) query.groups);
        only = conjuncts_same query.from leaves query.only j;
        order = map (order_key (output_names_same tables others alike query.from query.select j)) query.order;
      } in
      block

  typed_one : (query : QueryTree) (block : Block) → IsTyped tables query block → IsTyped others query block
  typed_one query block is =
      let of = is.resolved in
      record {
        met = subst AllClausesMet (statement_owes tables others alike query) is.met;
        resolved = (of.0, leaves_are query.from 1 (bases_if query.prefer) of.0 of.1, of.2 ∙ block_same query of.0);
        valid = is.valid;
        fits = fits_other tables others alike block is.fits;
      }

  pub typed_other : (queries : List QueryTree) (blocks : List Block) → AreTyped tables queries blocks → AreTyped others queries blocks
  typed_other [] [] are = are
  typed_other [] (block ∷ blocks) are = are
  typed_other (query ∷ queries) [] are = are
  typed_other (query ∷ queries) (block ∷ blocks) are = (typed_one query block are.0, typed_other queries blocks are.1)

  pub fault_other : (queries : List QueryTree) (spot : Spot) → IsFirstOfScript tables queries spot → IsFirstOfScript others queries spot
  fault_other [] spot is = is
  fault_other (query ∷ queries) spot (inl first) = inl (subst (λ clauses. IsFirstFault clauses spot) (statement_owes tables others alike query) first)
  fault_other (query ∷ queries) spot (inr later) = inr (subst AllClausesMet (statement_owes tables others alike query) later.0, fault_other queries spot later.1)
