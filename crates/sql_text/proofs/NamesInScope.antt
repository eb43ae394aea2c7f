-- The names of a FROM item's columns.
use Rattle.std.proofs.Common.{◌≡◌, ℕ, ◌<◌, ◌≤◌, List, [], map, length, get_or, sym, ap, ◌∙◌, arith}
use Rattle.std.proofs.lemmas.List.{get_or-map, get_or_past, length-map}
use Rattle.std.proofs.lemmas.Simd.{map-map}
use Rattle.prefsql_tables.specs.declared.schema.Column.{Column}
use Rattle.sql_tree.specs.declared.tree.SqlFrom.{SqlFrom}
use Rattle.sql_tree.specs.declared.tree.SqlItem.{SqlItem}
use Rattle.sql_tree.specs.declared.tree.SqlQuery.{SqlQuery, out-SqlQuery}
use Rattle.sql_tree.specs.declared.tree.SqlTable.{SqlTable}
use Rattle.sql_tree.specs.declared.tree.SqlSource.{Table, Derived}
use Rattle.sql_tree.specs.declared.tree.SqlCond.TheFolds.{the_lemmas}
use Rattle.sql_text.proofs.Equations.{from_names_is}
use Rattle.sql_text.specs.Text.{ItemNames, cond_pieces, scalar_pieces, source_pieces, from_pieces, item_pieces, query_pieces, when_pieces, term_pieces}
use Rattle.std.proofs.Common.{rules}

pub table_columns : (item : SqlFrom) (table : SqlTable) → item.source ≡ Table table → (from_pieces item).names.columns ≡ map (λ (column : Column). column.name) table.schema.columns
unfolding cond_pieces scalar_pieces source_pieces from_pieces item_pieces query_pieces when_pieces term_pieces
table_columns item table is = search (rules, the_lemmas, is)

pub derived_columns : (item : SqlFrom) (query : SqlQuery) → item.source ≡ Derived query → (from_pieces item).names.columns ≡ map (λ (i : SqlItem). i.name) (out-SqlQuery query).items
unfolding cond_pieces scalar_pieces source_pieces from_pieces item_pieces query_pieces when_pieces term_pieces
derived_columns item query is = search (rules, the_lemmas, is, map-map)

-- what stands at a place of the list of names
pub column_there : {X : Type 0} (f : X → List ℕ) (names : List (List ℕ)) (xs ys : List X) (i : ℕ) (x : X) → names ≡ map f ys → xs ≡ ys → i < length xs → x ≡ get_or xs i x → get_or names i [] ≡ f x
column_there f names xs ys i x is same there at =
    ap (λ ns. get_or ns i []) (is ∙ ap (map f) (sym same)) ∙ (get_or-map f xs i x [] there ∙ ap f (sym at))

pub column_past : {X : Type 0} (f : X → List ℕ) (names : List (List ℕ)) (xs ys : List X) (i : ℕ) → names ≡ map f ys → xs ≡ ys → length xs ≤ i → get_or names i [] ≡ []
column_past f names xs ys i is same past =
    let long : length (map f xs) ≡ length xs = simp length-map in
    ap (λ ns. get_or ns i []) (is ∙ ap (map f) (sym same)) ∙ get_or_past (map f xs) i [] (omega (arith, long, past))

pub item_name_is : (names : ItemNames) (item : SqlFrom) → names ≡ (from_pieces item).names → names.name ≡ item.name
item_name_is names item is = ap (λ (i : ItemNames). i.name) (is ∙ from_names_is item)
