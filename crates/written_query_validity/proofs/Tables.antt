-- What a query over the FROM tables of a block sees: their columns, each told by its names.
use Rattle.std.proofs.Common.{◌≡◌, ℕ, zero, suc, ◌+◌, ◌≤◌, ◌<◌, ◌^◌, Bool, true, false, List, [], ◌∷◌, map, length, get_or, All, refl, sym, ap, subst, ◌∙◌, arith, inl, inr, eqb}
use Rattle.std.proofs.lemmas.Bool.{and_from, lt-ltb}
use Rattle.std.proofs.lemmas.List.{get_or-map, length-map}
use Rattle.std.proofs.lemmas.List.Elements.{All-head, All-tail}
use Rattle.prefsql_values.specs.declared.value.Domain.{Domain}
use Rattle.prefsql_values.specs.declared.value.Domain.TheVariants.{Integer}
use Rattle.prefsql_values.specs.declared.value.Domain.TheVariants as domain
use Rattle.prefsql_tables.specs.Names.{names_of}
use Rattle.prefsql_tables.specs.Valid.{IsSchema}
use Rattle.prefsql_tables.specs.declared.place.ColumnPlace.{ColumnPlace}
use Rattle.prefsql_tables.specs.declared.schema.Column.{Column}
use Rattle.order_laws.proofs.Members.{Among, all_from}
use Rattle.query_meaning.specs.BlockFits.{IsPlace, columns_from}
use Rattle.query_meaning.specs.Valid.{IsFromTable, no_column, place_domain}
use Rattle.query_meaning.specs.declared.block.FromTable.{FromTable}
use Rattle.sql_tree.specs.declared.tree.SqlFrom.{SqlFrom}
use Rattle.sql_tree.specs.declared.tree.SqlPlace.{SqlPlace}
use Rattle.sql_tree.specs.declared.tree.SqlSource.{Table}
use Rattle.sql_tree.specs.Shown.{ShownColumn, ShownItem, View, column_at, domain_shape, number_shape, table_columns}
use Rattle.sql_tree.specs.WellFormed.{JudgedFrom, JudgedScalar, JudgedSource, all_differ, is_column, is_in_range, is_name, is_told, judged_scalar, own_view}
use Rattle.rewritten_query.specs.Names.{of_tables, table_name}
use Rattle.rewritten_query.specs.Rewriting.{table_item, table_items}
use Rattle.written_query_validity.proofs.Formed.{IsOf, IsPlain}
use Rattle.written_query_validity.proofs.Judgements.{judged-Column, judged_from, judged_from_is, judged_source, judged_source-Table}
use Rattle.written_query_validity.proofs.Names.{ColumnsDiffer, Differ, all_differ_from, all_names, columns_differ, differ_from_pairs, is_name_from, lettered_name, lettered_number, told_once}

-- ---- a column, by what it takes

-- the column is in range, and told by its names
pub record IsSeen (view : View) (place : SqlPlace) : Type 0 where
  pub in_range : is_in_range view place ≡ true
  pub told : is_told view place ≡ true

pub seen_column : (writing : Bool) (view : View) (place : SqlPlace) → IsSeen view place → is_column writing view place ≡ true
seen_column false view place is = is.in_range
seen_column true view place is = and_from _ _ is.in_range is.told

-- ---- the FROM tables

abbrev pub table_shown : ℕ → FromTable → ShownItem
table_shown n table = record { name = table_name n; columns = table_columns table.schema.columns }

abbrev pub tables_shown : ℕ → List FromTable → List ShownItem
tables_shown n [] = []
tables_shown n (table ∷ tables) = table_shown n table ∷ tables_shown (n + 1) tables

abbrev pub tables_view : List FromTable → View
tables_view from = tables_shown 1 from ∷ []

table_names_differ : (n : ℕ) (tables : List FromTable) → n + length tables < 2 ^ 32 → Differ (map (λ (item : ShownItem). item.name) (tables_shown n tables))
table_names_differ n [] small = tt
table_names_differ n (table ∷ tables) small = (
  (λ other there same.
      let found = later (n + 1) tables other there in
      let equal = lettered_number 84 84 n found.0 (omega (arith, small)) (omega (arith, found.1.1, small)) (same ∙ found.2) in
      omega (arith, equal, found.1.0)),
  table_names_differ (n + 1) tables (omega (arith, small)),
)
  where
    later : (k : ℕ) (more : List FromTable) (name : List ℕ) → Among (map (λ (item : ShownItem). item.name) (tables_shown k more)) name → (m : ℕ) × ((k ≤ m) × (m < k + length more)) × (name ≡ table_name m)
    later k [] name there = absurd there
    later k (t ∷ more) name (inl is) = (k, (omega arith, omega arith), sym is)
    later k (t ∷ more) name (inr there) = let found = later (k + 1) more name there in (found.0, (omega (arith, found.1.0), omega (arith, found.1.1)), found.2)

pub tables_differ : (from : List FromTable) → length from ≤ 8 → all_differ (map (λ (item : ShownItem). item.name) (tables_shown 1 from)) ≡ true
tables_differ from few = all_differ_from _ (table_names_differ 1 from (omega (arith, few)))

module _ (writing : Bool) where
  columns_read : (table : FromTable) → (judged_source writing (Table (record { index = table.index; name = table.name; schema = table.schema }))).columns ≡ table_columns table.schema.columns
  columns_read table = ap (λ (source : JudgedSource). source.columns) (judged_source-Table writing (record { index = table.index; name = table.name; schema = table.schema }))

  item_read : (n : ℕ) (table : FromTable) → (judged_from writing (table_item n table)).item ≡ table_shown n table
  item_read n table =
      ap (λ (f : JudgedFrom). f.item) (judged_from_is writing (table_item n table))
      ∙ ap (λ columns. let item : ShownItem = record { name = table_name n; columns = columns } in item) (columns_read table)

  pub table_view : (n : ℕ) (from : List FromTable) → own_view (map (judged_from writing) (table_items n from)) ≡ tables_shown n from
  table_view n [] = refl
  table_view n (table ∷ from) = λ j. item_read n table j ∷ table_view (n + 1) from j

  table_well : (n : ℕ) (table : FromTable) → n < 2 ^ 32 → IsFromTable table → (judged_from writing (table_item n table)).well ≡ true
  table_well n table small is =
      let columns = table.schema.columns in
      ap (λ (f : JudgedFrom). f.well) (judged_from_is writing (table_item n table))
      ∙ and_from _ _ (lettered_name 84 n (omega arith) small)
      (ap (λ (source : JudgedSource). source.well) (judged_source-Table writing (record { index = table.index; name = table.name; schema = table.schema }))
      ∙ and_from _ _
      (and_from _ _ (is_name_from table.name is.name) (all_from is_name (names_of columns) (all_names (names_of columns) is.schema.names)))
      (all_differ_from (names_of columns) (differ_from_pairs (names_of columns) is.schema.differ)))

  pub tables_well : (n : ℕ) (from : List FromTable) → n + length from < 2 ^ 32 → All IsFromTable from → (f : SqlFrom) → Among (table_items n from) f → (judged_from writing f).well ≡ true
  tables_well n [] small are f there = absurd there
  tables_well n (table ∷ from) small are f (inl is) = ap (λ g. (judged_from writing g).well) (sym is) ∙ table_well n table (omega (arith, small)) (All-head IsFromTable table from are)
  tables_well n (table ∷ from) small are f (inr more) = tables_well (n + 1) from (omega (arith, small)) (All-tail IsFromTable table from are) f more

-- ---- a column of the tables

columns_at : (n : ℕ) (from : List FromTable) (t : ℕ) (d : ShownItem) → t < length from → (get_or (tables_shown n from) t d).columns ≡ table_columns (columns_from from t)
columns_at n [] t d within = absurd (omega (arith, within))
columns_at n (table ∷ from) zero d within = refl
columns_at n (table ∷ from) (suc t) d within = columns_at (n + 1) from t d (omega (arith, within))

schema_at : (from : List FromTable) (t : ℕ) → t < length from → All IsFromTable from → IsSchema (columns_from from t)
schema_at [] t within are = absurd (omega (arith, within))
schema_at (table ∷ from) zero within are = (All-head IsFromTable table from are).schema
schema_at (table ∷ from) (suc t) within are = schema_at from t (omega (arith, within)) (All-tail IsFromTable table from are)

names_read : (columns : List Column) → map (λ (c : ShownColumn). c.name) (table_columns columns) ≡ names_of columns
names_read [] = refl
names_read (column ∷ columns) = ap (λ names. column.name ∷ names) (names_read columns)

shown_length : (n : ℕ) (from : List FromTable) → length (tables_shown n from) ≡ length from
shown_length n [] = refl
shown_length n (table ∷ from) = ap suc (shown_length (n + 1) from)

module _ (writing : Bool) (from : List FromTable) (are : All IsFromTable from) (place : ColumnPlace) (is : IsPlace from place) where
  abbrev at : SqlPlace
  at = record { up = 0; item = place.table; column = place.column }

  abbrev nowhere : ShownItem
  nowhere = record { name = []; columns = [] }

  abbrev no_shown : ShownColumn
  no_shown = record { name = []; shape = number_shape }

  abbrev item : ShownItem
  item = get_or (tables_shown 1 from) place.table nowhere

  columns_are : item.columns ≡ table_columns (columns_from from place.table)
  columns_are = columns_at 1 from place.table nowhere is.table

  within : place.column < length item.columns
  within = let same = ap length columns_are in let count = length-map (columns_from from place.table) (λ (column : Column). let c : ShownColumn = record { name = column.name; shape = domain_shape column.domain } in c) in omega (arith, same, count, is.column)

  apart : ColumnsDiffer item.columns
  apart =
      let columns = columns_from from place.table in
      let names = ap (map (λ (c : ShownColumn). c.name)) columns_are ∙ names_read columns in
      columns_differ item.columns (subst Differ (sym names) (differ_from_pairs (names_of columns) (schema_at from place.table is.table are).differ))

  seen : IsSeen (tables_view from) at
  seen = record {
    in_range =
        and_from _ _
        (and_from _ _ refl (lt-ltb place.table (length (tables_shown 1 from)) (let count = shown_length 1 from in omega (arith, count, is.table))))
        (lt-ltb place.column (length item.columns) within);
    told = and_from _ _ (ap (λ count. eqb count 1) (told_once item.columns apart place.column no_shown within)) refl;
  }

  shape_is : (column_at (tables_view from) at).shape ≡ domain_shape (place_domain from place)
  shape_is =
      ap (λ (columns : List ShownColumn). (get_or columns place.column no_shown).shape) columns_are
      ∙ ap (λ (c : ShownColumn). c.shape)
      (get_or-map (λ (column : Column). let c : ShownColumn = record { name = column.name; shape = domain_shape column.domain } in c) (columns_from from place.table) place.column no_column no_shown is.column)

  judged_column : judged_scalar writing (of_tables place) (tables_view from) ≡ record { shape = domain_shape (place_domain from place); well = true; is_sum = false }
  judged_column =
      judged-Column writing at (tables_view from)
      ∙ (λ j. let judged : JudgedScalar = record { shape = shape_is j; well = seen_column writing (tables_view from) at seen j; is_sum = false } in judged)

  pub table_column_plain : place_domain from place ≡ Integer → IsPlain writing (tables_view from) (of_tables place)
  table_column_plain numbers = judged_column ∙ (λ j. let judged : JudgedScalar = record { shape = domain_shape (numbers j); well = true; is_sum = false } in judged)

  domain_back : (d : Domain) → (domain_shape d).domain ≡ d
  domain_back domain.Integer = refl
  domain_back domain.Chars = refl

  pub table_column : IsOf writing (tables_view from) (place_domain from place) (of_tables place)
  table_column = record {
    well = ap (λ (j : JudgedScalar). j.well) judged_column;
    same = ap (λ (j : JudgedScalar). j.shape.domain) judged_column ∙ domain_back (place_domain from place);
  }
