-- The place, the domain and the NULL mark of the column that a name stands for, among the FROM tables of the block.
use Rattle.std.proofs.Common.{◌≡◌, ℕ, ◌<◌, true, false, List, [], ◌∷◌, length, map, get_or, refl, sym, ap, ◌∙◌, subst, arith}
use Rattle.std.proofs.lemmas.Bool.{false≢true}
use Rattle.std.proofs.lemmas.List.{length-map, get_or_default}
use Rattle.std.proofs.lemmas.List.Elements.{All-head, All-tail}
use Rattle.prefsql_tables.specs.Table.{Tables}
use Rattle.prefsql_tables.specs.declared.schema.Column.{Column}
use Rattle.query_meaning.specs.BlockFits.{IsPlace, columns_from}
use Rattle.query_meaning.specs.Valid.{no_column, place_domain}
use Rattle.query_meaning.specs.declared.block.FromTable.{FromTable}
use Rattle.query_tree.specs.declared.name.NameTree.{NameTree}
use Rattle.query_tree.specs.declared.query.FromTree.{FromTree}
use Rattle.query_typing.specs.declared.column.Site.{Site}
use Rattle.query_typing.specs.declared.column.Found.{Found}
use Rattle.query_typing.specs.declared.column.Found.TheVariants.{Missing, One, Several}
use Rattle.query_typing.specs.Columns.{column_of, item_columns}
use Rattle.query_typing.specs.Conditions.{column_obligations, found_obligations}
use Rattle.query_typing.specs.Obligations.{AllMet, Obligation, owes}
use Rattle.query_typing.specs.Resolution.{from_table}
use Rattle.query_typing.proofs.SiteLaws.{IsSiteOf, site_of}

abbrev Met : Obligation → Type 0
Met o = o.met ≡ true

one_found : (found : Found) (at : ℕ) → AllMet (found_obligations found at) → (site : Site) × (found ≡ One site)
one_found Missing at all = absurd (false≢true (All-head Met (owes 303 at false) (owes 304 at true ∷ []) all))
one_found (One site) at all = (site, refl)
one_found Several at all = absurd (false≢true (All-head Met (owes 304 at false) [] (All-tail Met (owes 303 at true) (owes 304 at false ∷ []) all)))

module _ (tables : Tables) (from : List FromTree) where
  -- a name that keeps what it owes stands for one column
  pub known : (name : NameTree) → AllMet (column_obligations tables from name) → (site : Site) × (column_of tables from name ≡ One site)
  known name all = one_found (column_of tables from name) name.at all

  lists : (items : List FromTree) → map (λ (table : FromTable). table.schema.columns) (map (from_table tables) items) ≡ map (item_columns tables) items
  lists [] = refl
  lists (item ∷ items) = ap (λ more. item_columns tables item ∷ more) (lists items)

  -- the columns of the FROM table at a position
  pub columns_at : (i : ℕ) → columns_from (map (from_table tables) from) i ≡ get_or (map (item_columns tables) from) i []
  columns_at i = ap (λ ls. get_or ls i []) (lists from)

  module _ (name : NameTree) (site : Site) (is : column_of tables from name ≡ One site) where
    of : IsSiteOf (map (item_columns tables) from) site
    of = site_of tables name from site is

    pub place_is : IsPlace (map (from_table tables) from) site.place
    place_is = record {
      table = (let small = of.table in
          let first = length-map from (item_columns tables) in
          let second = length-map from (from_table tables) in
          omega (arith, small, first, second));
      column = subst (λ (columns : List Column). site.place.column < length columns) (sym (columns_at site.place.table)) of.column.there;
    }

    -- what is true of the column of a table at the site
    here : (d : Column) → get_or (columns_from (map (from_table tables) from) site.place.table) site.place.column d ≡ get_or (get_or (map (item_columns tables) from) site.place.table []) site.place.column no_column
    here d =
        get_or_default (columns_from (map (from_table tables) from) site.place.table) site.place.column d no_column place_is.column
        ∙ ap (λ (columns : List Column). get_or columns site.place.column no_column) (columns_at site.place.table)

    pub domain_at : (d : Column) → (get_or (columns_from (map (from_table tables) from) site.place.table) site.place.column d).domain ≡ site.domain
    domain_at d = ap (λ (column : Column). column.domain) (here d) ∙ sym of.column.domain

    pub nullable_at : (d : Column) → (get_or (columns_from (map (from_table tables) from) site.place.table) site.place.column d).nullable ≡ site.nullable
    nullable_at d = ap (λ (column : Column). column.nullable) (here d) ∙ sym of.column.nullable

    pub domain_is : place_domain (map (from_table tables) from) site.place ≡ site.domain
    domain_is = domain_at no_column
