-- FROM items that keep what they owe are valid tables of the set.
use Rattle.std.proofs.Common.{◌≡◌, ℕ, true, false, not, eqb, Option, Some, None, List, [], ◌∷◌, ◌++◌, length, map, get_or, All, refl, sym}
use Rattle.std.specs.List.{list_any}
use Rattle.std.specs.Prelude.{is_some, unwrap_or}
use Rattle.std.specs.Str.{bytes_eq}
use Rattle.std.proofs.lemmas.Bool.{false≢true}
use Rattle.std.proofs.lemmas.List.Elements.{All-nil, All-cons, All-head, All-map, All-weaker}
use Rattle.std.proofs.lemmas.List.Quantifiers.{position-Some}
use Rattle.std.proofs.lemmas.Slice.Eq.{bytes_eq-Decides}
use Rattle.prefsql_tables.specs.Names.{table_place}
use Rattle.prefsql_tables.specs.Table.{Tables, no_table}
use Rattle.prefsql_tables.specs.TableData.{NamedTable}
use Rattle.prefsql_tables.specs.Valid.{IsSchema, IsTableSet}
use Rattle.query_meaning.specs.BlockFits.{IsTableOf}
use Rattle.query_meaning.specs.Valid.{IsFromTable}
use Rattle.query_meaning.specs.declared.block.FromTable.{FromTable}
use Rattle.query_tree.specs.WellMade.{IsFrom}
use Rattle.query_tree.specs.declared.query.FromTree.{FromTree}
use Rattle.query_typing.specs.Columns.{correlation, item_columns, known_columns}
use Rattle.query_typing.specs.Obligations.{AllMet, Obligation, owes}
use Rattle.query_typing.specs.Resolution.{from_table}
use Rattle.query_typing.specs.Statements.{from_obligations}
use Rattle.query_typing.proofs.MadeLaws.{second_met}

abbrev Met : Obligation → Type 0
Met o = o.met ≡ true

module _ (tables : Tables) where
  -- there is a table of its name
  abbrev pub IsKnown : FromTree → Type 0
  IsKnown item = is_some (table_place tables item.table) ≡ true

  pub known_tables : (before : List (List ℕ)) (items : List FromTree) → AllMet (from_obligations tables before items) → All IsKnown items
  known_tables before [] all = All-nil IsKnown
  known_tables before (item ∷ items) all =
      let known = owes 301 item.at (is_some (table_place tables item.table)) in
      let single = owes 302 item.name_at (not (list_any (bytes_eq (correlation item)) before)) in
      let few = owes 317 item.at (not (eqb (length before) 8)) in
      let rest = from_obligations tables (before ++ correlation item ∷ []) items in
      All-cons IsKnown item items
      (All-head Met known (single ∷ few ∷ rest) all)
      (known_tables (before ++ correlation item ∷ []) items (second_met (known ∷ single ∷ few ∷ []) rest all))

  -- the FROM table of an item whose table is at this place
  abbrev table_by : FromTree → Option ℕ → FromTable
  table_by item place = record { index = unwrap_or place 0; name = item.table; schema = record { columns = known_columns tables place } }

  table_is : (item : FromTree) → IsKnown item → IsTableOf tables (from_table tables item)
  table_is item known = by_place (table_place tables item.table) refl known
    where
      by_place : (place : Option ℕ) → table_place tables item.table ≡ place → is_some place ≡ true → IsTableOf tables (table_by item place)
      by_place None is some = absurd (false≢true some)
      by_place (Some index) is some =
          let there = position-Some (λ (named : NamedTable). bytes_eq item.table named.name) tables index no_table is in
          record {
            there = there.0;
            name = sym ((bytes_eq-Decides item.table (get_or tables index no_table).name).0 there.1);
            columns = refl;
          }

  schema_is : IsTableSet tables → (item : FromTree) → IsKnown item → IsSchema (item_columns tables item)
  schema_is valid item known = by_place (table_place tables item.table) refl known
    where
      by_place : (place : Option ℕ) → table_place tables item.table ≡ place → is_some place ≡ true → IsSchema (known_columns tables place)
      by_place None is some = absurd (false≢true some)
      by_place (Some index) is some =
          let there = position-Some (λ (named : NamedTable). bytes_eq item.table named.name) tables index no_table is in
          (valid.all_valid index no_table there.0).schema

  pub tables_fit : (items : List FromTree) → AllMet (from_obligations tables [] items) → All (IsTableOf tables) (map (from_table tables) items)
  tables_fit items all =
      All-map (IsTableOf tables) (from_table tables) items
      (All-weaker IsKnown (λ (item : FromTree). IsTableOf tables (from_table tables item)) table_is items (known_tables [] items all))

  pub schemas_are : IsTableSet tables → (items : List FromTree) → AllMet (from_obligations tables [] items) → All (λ (item : FromTree). IsSchema (item_columns tables item)) items
  schemas_are valid items all =
      All-weaker IsKnown (λ (item : FromTree). IsSchema (item_columns tables item)) (schema_is valid) items (known_tables [] items all)

  pub tables_valid : IsTableSet tables → (items : List FromTree) → All IsFrom items → AllMet (from_obligations tables [] items) → All IsFromTable (map (from_table tables) items)
  tables_valid valid items made all =
      let schemas = schemas_are valid items all in
      All-map IsFromTable (from_table tables) items (λ k d small. record { name = (made k d small).table_name; schema = schemas k d small })
