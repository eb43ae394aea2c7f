-- Over tables with the same names in the same order and equal columns a statement owes the same.
use Rattle.std.proofs.Common.{◌≡◌, ℕ, ◌+◌, not, Option, Some, None, List, [], ◌∷◌, ◌++◌, map, length, refl, ap, ◌∙◌}
use Rattle.std.specs.List.{cons_option, flat_map, list_any}
use Rattle.std.specs.Str.{bytes_eq}
use Rattle.std.specs.Prelude.{is_some, if◌then◌else◌, ◌&&◌, nat_eq}
use Rattle.prefsql_tables.specs.Names.{column_place, names_of, table_place}
use Rattle.prefsql_tables.specs.Table.{Tables}
use Rattle.prefsql_tables.specs.Valid.{IsAlike}
use Rattle.query_tree.specs.declared.name.NameTree.{NameTree}
use Rattle.query_tree.specs.declared.condition.ScalarTree.{ScalarTree}
use Rattle.query_tree.specs.declared.condition.ScalarTree.TheVariants as scalar
use Rattle.query_tree.specs.declared.condition.CondTree.{CondTree, fold-CondTree}
use Rattle.query_tree.specs.declared.condition.CondTree.TheOpen.{CondTree-F}
use Rattle.query_tree.specs.declared.preference.BaseForm.{BaseForm}
use Rattle.query_tree.specs.declared.preference.BaseForm.TheVariants as form
use Rattle.query_tree.specs.declared.preference.BaseTree.{BaseTree}
use Rattle.query_tree.specs.declared.query.FromTree.{FromTree}
use Rattle.query_tree.specs.declared.query.ItemTree.{ItemTree}
use Rattle.query_tree.specs.declared.query.QueryTree.{QueryTree}
use Rattle.query_tree.specs.declared.query.SelectTree.{SelectTree}
use Rattle.query_tree.specs.declared.query.SelectTree.TheVariants as select
use Rattle.query_typing.specs.declared.column.Found.{Found}
use Rattle.query_typing.specs.declared.quality.LeafSite.{LeafSite}
use Rattle.query_typing.specs.declared.quality.Wanted.{Wanted}
use Rattle.query_typing.specs.declared.quality.Wanted.TheVariants.{Level, Distance, Either}
use Rattle.query_typing.specs.Columns.{column_name, column_of, correlation, domain_found, found, item_columns, item_site, known_columns, site_if, sites, speaks_of}
use Rattle.query_typing.specs.Conditions.{column_obligations, compared_obligations, cond_obligations, cond_obligations_step, found_obligations, leaf_obligations, quality_obligations, scalar_at, scalar_domain, scalar_obligations}
use Rattle.query_typing.specs.Domains.{agree}
use Rattle.query_typing.specs.Leaves.{bases_if, form_has_distance, form_has_level, leaf_site, leaf_sites, place_if}
use Rattle.query_typing.specs.Obligations.{Obligation, owes}
use Rattle.query_typing.specs.Preferences.{base_column_obligations, base_obligations, bases_obligations, differ, else_obligations, form_obligations, sets_obligations, admits_null, form_ranks_numbers, is_text}
use Rattle.query_typing.specs.Statements.{condition_obligations, from_obligations, inner_obligations, item_obligations, obligations, order_obligations, output_names, select_obligations}
use Rattle.alike_tables.proofs.AlikeTables.{columns_same, place_same}

module _ (tables others : Tables) (alike : IsAlike tables others) where
  -- ---- columns

  known_same : (place : Option ℕ) → known_columns tables place ≡ known_columns others place
  known_same None = refl
  known_same (Some index) = columns_same tables others alike index

  pub item_columns_same : (item : FromTree) → item_columns tables item ≡ item_columns others item
  item_columns_same item = known_same (table_place tables item.table) ∙ ap (known_columns others) (place_same tables others alike item.table)

  item_site_same : (table : ℕ) (name : NameTree) (item : FromTree) → item_site tables table name item ≡ item_site others table name item
  item_site_same table name item =
      ap (λ columns. if speaks_of name item then site_if table columns (column_place columns (column_name name)) else None) (item_columns_same item)

  sites_same : (table : ℕ) (name : NameTree) (from : List FromTree) → sites tables table name from ≡ sites others table name from
  sites_same table name [] = refl
  sites_same table name (item ∷ items) = λ j. cons_option (item_site_same table name item j) (sites_same (table + 1) name items j)

  -- a name stands for the same column
  pub column_same : (from : List FromTree) (name : NameTree) → column_of tables from name ≡ column_of others from name
  unfolding column_of
  column_same from name = ap found (sites_same 0 name from)

  -- ---- FROM, and the names of the output

  item_owes : (before : List (List ℕ)) (item : FromTree) → item_obligations tables before item ≡ item_obligations others before item
  item_owes before item = ap (λ place.
      owes 301 item.at (is_some place)
      ∷ owes 302 item.name_at (not (list_any (bytes_eq (correlation item)) before))
      ∷ owes 317 item.at (not (nat_eq (length before) 8)) ∷ []) (place_same tables others alike item.table)

  from_same : (before : List (List ℕ)) (from : List FromTree) → from_obligations tables before from ≡ from_obligations others before from
  from_same before [] = refl
  from_same before (item ∷ items) = λ j. item_owes before item j ++ from_same (before ++ correlation item ∷ []) items j

  named_same : (from : List FromTree) → flat_map (λ (item : FromTree). names_of (item_columns tables item)) from ≡ flat_map (λ (item : FromTree). names_of (item_columns others item)) from
  named_same [] = refl
  named_same (item ∷ items) = λ j. names_of (item_columns_same item j) ++ named_same items j

  pub output_names_same : (from : List FromTree) (s : SelectTree) → output_names tables from s ≡ output_names others from s
  output_names_same from select.All = named_same from
  output_names_same from (select.Items items) = refl

  module _ (from : List FromTree) where
    -- ---- scalars and conditions

    column_owes : (name : NameTree) → column_obligations tables from name ≡ column_obligations others from name
    column_owes name = ap (λ f. found_obligations f name.at) (column_same from name)

    columns_owe : (names : List NameTree) → flat_map (column_obligations tables from) names ≡ flat_map (column_obligations others from) names
    columns_owe [] = refl
    columns_owe (name ∷ names) = λ j. column_owes name j ++ columns_owe names j

    domain_same : (s : ScalarTree) → scalar_domain tables from s ≡ scalar_domain others from s
    domain_same (scalar.Column name) = ap domain_found (column_same from name)
    domain_same (scalar.Literal literal) = refl
    domain_same (scalar.Level name word) = refl
    domain_same (scalar.Distance name word) = refl

    module _ (leaves : List LeafSite) where
      quality_owes : (wanted : Wanted) (name : NameTree) → quality_obligations tables from leaves wanted name ≡ quality_obligations others from leaves wanted name
      quality_owes wanted name = λ j. column_owes name j ++ leaf_obligations wanted (column_same from name j) name.at leaves

      scalar_owes : (s : ScalarTree) → scalar_obligations tables from leaves s ≡ scalar_obligations others from leaves s
      scalar_owes (scalar.Column name) = column_owes name
      scalar_owes (scalar.Literal literal) = refl
      scalar_owes (scalar.Level name word) = quality_owes Level name
      scalar_owes (scalar.Distance name word) = quality_owes Distance name

      compared_owes : (a b : ScalarTree) → compared_obligations tables from leaves (scalar_domain tables from a) b ≡ compared_obligations others from leaves (scalar_domain others from a) b
      compared_owes a b = λ j. scalar_owes b j ++ owes 305 (scalar_at b) (agree (domain_same a j) (domain_same b j)) ∷ []

      list_owes : (a : ScalarTree) (list : List ScalarTree)
          → flat_map (compared_obligations tables from leaves (scalar_domain tables from a)) list ≡ flat_map (compared_obligations others from leaves (scalar_domain others from a)) list
      list_owes a [] = refl
      list_owes a (b ∷ list) = λ j. compared_owes a b j ++ list_owes a list j

      step_same : (layer : CondTree-F (List Obligation)) → cond_obligations_step tables from leaves layer ≡ cond_obligations_step others from leaves layer
      step_same (CondTree-F.And parts) = refl
      step_same (CondTree-F.Or parts) = refl
      step_same (CondTree-F.Not part) = refl
      step_same (CondTree-F.Compare op a b) = λ j. scalar_owes a j ++ compared_owes a b j
      step_same (CondTree-F.Between negated a low high) = λ j. scalar_owes a j ++ compared_owes a low j ++ compared_owes a high j
      step_same (CondTree-F.OneOf negated a list) = λ j. scalar_owes a j ++ list_owes a list j
      step_same (CondTree-F.IsNull negated a) = scalar_owes a
      step_same (CondTree-F.Top name) = quality_owes Either name

      cond_owes : (c : CondTree) → cond_obligations tables from leaves c ≡ cond_obligations others from leaves c
      unfolding cond_obligations
      cond_owes c = λ j. fold-CondTree (List Obligation) (λ layer. step_same layer j) c

      condition_owes : (c : Option CondTree) → condition_obligations tables from leaves c ≡ condition_obligations others from leaves c
      condition_owes None = refl
      condition_owes (Some c) = cond_owes c

      items_owe : (items : List ItemTree) → select_obligations tables from leaves (select.Items items) ≡ select_obligations others from leaves (select.Items items)
      items_owe [] = refl
      items_owe (item ∷ items) = λ j. scalar_owes item.value j ++ items_owe items j

      select_owes : (s : SelectTree) → select_obligations tables from leaves s ≡ select_obligations others from leaves s
      select_owes select.All = refl
      select_owes (select.Items items) = items_owe items

    -- ---- preferences

    leaf_site_same : (base : BaseTree) → leaf_site tables from base ≡ leaf_site others from base
    leaf_site_same base = λ j.
        let site : LeafSite = record { place = place_if (column_same from base.column j); has_level = form_has_level base.form; has_distance = form_has_distance base.form } in
        site

    leaf_sites_same : (bases : List BaseTree) → leaf_sites tables from bases ≡ leaf_sites others from bases
    leaf_sites_same bases = λ j. map (λ base. leaf_site_same base j) bases

    else_owes : (f : Found) (name : NameTree) → else_obligations tables from f name ≡ else_obligations others from f name
    else_owes f name = λ j. column_owes name j ++ owes 311 name.at (not (differ f (column_same from name j))) ∷ []

    form_owes : (f : Found) (b : BaseForm) → form_obligations tables from f b ≡ form_obligations others from f b
    form_owes f (form.Pos set) = refl
    form_owes f (form.Neg set) = refl
    form_owes f (form.PosPos one column two) = ap (λ os. os ++ sets_obligations (domain_found f) [] (one ∷ two ∷ [])) (else_owes f column)
    form_owes f (form.PosNeg one column two) = ap (λ os. os ++ sets_obligations (domain_found f) [] (one ∷ two ∷ [])) (else_owes f column)
    form_owes f (form.Layered above below) = refl
    form_owes f (form.Explicit edges) = refl
    form_owes f (form.Around middle) = refl
    form_owes f (form.Between low high) = refl
    form_owes f form.Lowest = refl
    form_owes f form.Highest = refl

    base_column_owes : (base : BaseTree) → base_column_obligations tables from (column_of tables from base.column) base ≡ base_column_obligations others from (column_of others from base.column) base
    base_column_owes base = λ j.
        column_owes base.column j
        ++ owes 306 base.column.at (not (admits_null (column_same from base.column j)))
        ∷ owes 307 base.column.at (not (form_ranks_numbers base.form && is_text (domain_found (column_same from base.column j)))) ∷ []

    base_owes : (base : BaseTree) → base_obligations tables from base ≡ base_obligations others from base
    unfolding base_obligations
    base_owes base =
        (λ j. base_column_owes base j ++ form_obligations tables from (column_same from base.column j) base.form)
        ∙ ap (λ os. base_column_obligations others from (column_of others from base.column) base ++ os) (form_owes (column_of others from base.column) base.form)

    bases_owe : (count : ℕ) (bases : List BaseTree) → bases_obligations tables from count bases ≡ bases_obligations others from count bases
    bases_owe count [] = refl
    bases_owe count (base ∷ bases) = λ j. owes 318 base.at (not (nat_eq count 8)) ∷ (base_owes base j ++ bases_owe (count + 1) bases j)

  -- ---- the statement

  inner_owes : (query : QueryTree) (leaves : List LeafSite) → inner_obligations tables query leaves ≡ inner_obligations others query leaves
  inner_owes query leaves = λ j.
      select_owes query.from leaves query.select j
      ∷ condition_owes query.from leaves query.filter j
      ∷ bases_owe query.from 0 (bases_if query.prefer) j
      ∷ columns_owe query.from query.groups j
      ∷ condition_owes query.from leaves query.only j ∷ []

  pub statement_owes : (query : QueryTree) → obligations tables query ≡ obligations others query
  unfolding obligations
  statement_owes query =
      (λ j. from_same [] query.from j ∷ inner_obligations tables query (leaf_sites_same query.from (bases_if query.prefer) j)
      ++ flat_map (order_obligations (output_names_same query.from query.select j)) query.order ∷ [])
      ∙ ap (λ inner. from_obligations others [] query.from ∷ inner ++ flat_map (order_obligations (output_names others query.from query.select)) query.order ∷ [])
      (inner_owes query (leaf_sites others query.from (bases_if query.prefer)))
