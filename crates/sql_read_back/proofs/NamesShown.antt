-- The names of what stands in FROM, as it is shown, as it is written and as it can be written.
use Rattle.std.proofs.Common.{◌≡◌, ℕ, Bool, List, [], ◌∷◌, map, refl, sym, ap, ◌∙◌, subst}
use Rattle.prefsql_tables.specs.declared.schema.Column.{Column}
use Rattle.sql_tree.specs.Shown.{View, ShownItem, ShownColumn, table_columns}
use Rattle.sql_tree.specs.WellFormed.{JudgedItem, JudgedFrom, JudgedSource, JudgedQuery}
use Rattle.sql_tree.specs.declared.tree.SqlCond.{SqlCond}
use Rattle.sql_tree.specs.declared.tree.SqlCond.TheOpen.{SqlSource-F}
use Rattle.sql_tree.specs.declared.tree.SqlScalar.{SqlScalar}
use Rattle.sql_tree.specs.declared.tree.SqlSource.{SqlSource, roll-SqlSource, out-SqlSource, roll-out-SqlSource}
use Rattle.sql_tree.specs.declared.tree.SqlFrom.{SqlFrom}
use Rattle.sql_tree.specs.declared.tree.SqlItem.{SqlItem}
use Rattle.sql_tree.specs.declared.tree.SqlQuery.{SqlQuery, out-SqlQuery, roll-out-SqlQuery}
use Rattle.sql_tree.specs.declared.tree.SqlTable.{SqlTable}
use Rattle.sql_tree.specs.declared.tree.SqlWhen.{SqlWhen}
use Rattle.sql_tree.specs.declared.tree.SumTerm.{SumTerm}
use Rattle.sql_text.specs.Text.{Names, ItemNames, WrittenItem, item_pieces, source_pieces, from_pieces, query_pieces}
use Rattle.sql_read_back.proofs.Writable.{FineItem, FineFrom, fine_item, fine_from, fine_source, fine_query}
use Rattle.sql_text.proofs.Equations.{item_name_is, from_names_is, columns-Table, columns-Derived, columns-query, inner_names}
use Rattle.sql_read_back.proofs.FineEquations.{fine_names, fine_item_name_is, fine_from_names_is, fine_columns-Table, fine_columns-Derived, fine_columns-query}
use Rattle.sql_read_back.proofs.Judged.{judged_item, judged_from, judged_source, judged_query}
use Rattle.sql_read_back.proofs.JudgedEquations.{judged_item_is, judged_from_is, judged-Table, judged-Derived, judged_query_is, own_items}

abbrev pub shown_names : List ShownColumn → List (List ℕ)
shown_names = map (λ (column : ShownColumn). column.name)

pub table_names : (cs : List Column) → shown_names (table_columns cs) ≡ map (λ (column : Column). column.name) cs
table_names [] = refl
table_names (c ∷ cs) = ap (λ ns. c.name ∷ ns) (table_names cs)

item_names : (view : View) (is : List SqlItem) → shown_names (map (λ (item : JudgedItem). item.column) (map (λ (item : View → JudgedItem). item view) (map judged_item is))) ≡ map (λ (item : SqlItem). item.name) is
item_names view [] = refl
item_names view (i ∷ is) = ap (λ (k : JudgedItem). k.column.name ∷ shown_names (map (λ (item : JudgedItem). item.column) (map (λ (item : View → JudgedItem). item view) (map judged_item is)))) (judged_item_is i view) ∙ ap (λ ns. i.name ∷ ns) (item_names view is)

written_names : (is : List SqlItem) → map (λ (item : WrittenItem). item.name) (map item_pieces is) ≡ map (λ (item : SqlItem). item.name) is
written_names [] = refl
written_names (i ∷ is) = ap (λ n. n ∷ map (λ (item : WrittenItem). item.name) (map item_pieces is)) (item_name_is i) ∙ ap (λ ns. i.name ∷ ns) (written_names is)

shown_query : (q : SqlQuery) (view : View) → shown_names (judged_query q view).columns ≡ map (λ (item : SqlItem). item.name) (out-SqlQuery q).items
shown_query q view =
    let o = out-SqlQuery q in
    ap (λ q. shown_names (judged_query q view).columns) (sym (roll-out-SqlQuery q))
    ∙ (ap (λ (k : JudgedQuery). shown_names k.columns) (judged_query_is o.distinct o.items o.from o.filter o.order view) ∙ item_names (own_items o.from ∷ view) o.items)

written_query : (q : SqlQuery) → (query_pieces q).columns ≡ map (λ (item : SqlItem). item.name) (out-SqlQuery q).items
written_query q =
    let o = out-SqlQuery q in
    ap (λ q. (query_pieces q).columns) (sym (roll-out-SqlQuery q)) ∙ (columns-query o.distinct o.items o.from o.filter o.order ∙ written_names o.items)

pub written_source : (s : SqlSource) → (source_pieces s).columns ≡ shown_names (judged_source s).columns
written_source s = subst (λ s. (source_pieces s).columns ≡ shown_names (judged_source s).columns) (roll-out-SqlSource s) (by_form (out-SqlSource s))
  where
    by_form : (o : SqlSource-F SqlCond SqlScalar SqlSource SqlFrom SqlItem SqlQuery SqlWhen SumTerm) → (source_pieces (roll-SqlSource o)).columns ≡ shown_names (judged_source (roll-SqlSource o)).columns
    by_form (SqlSource-F.Table t) = columns-Table t ∙ (sym (table_names t.schema.columns) ∙ ap (λ (k : JudgedSource). shown_names k.columns) (sym (judged-Table t)))
    by_form (SqlSource-F.Derived q) = columns-Derived q ∙ (written_query q ∙ (sym (shown_query q []) ∙ ap (λ (k : JudgedSource). shown_names k.columns) (sym (judged-Derived q))))

abbrev pub item_of : ShownItem → ItemNames
item_of item = record { name = item.name; columns = shown_names item.columns }

-- the names of FROM items as they are written
pub written_items : (fs : List SqlFrom) → map item_of (own_items fs) ≡ map (λ item. (from_pieces item).names) fs
written_items [] = refl
written_items (f ∷ fs) =
    let N : List (List ℕ) → ItemNames = λ cs. record { name = f.name; columns = cs } in
    let one : item_of (judged_from f).item ≡ (from_pieces f).names = ap (λ (k : JudgedFrom). item_of k.item) (judged_from_is f) ∙ (ap N (sym (written_source f.source)) ∙ sym (from_names_is f)) in
    ap (λ n. n ∷ map item_of (own_items fs)) one ∙ ap (λ ns. (from_pieces f).names ∷ ns) (written_items fs)

module _ (ok : SqlTable → Bool) where
  fine_items : (is : List SqlItem) → map (λ (item : FineItem). item.name) (map (fine_item ok) is) ≡ map (λ (item : SqlItem). item.name) is
  fine_items [] = refl
  fine_items (i ∷ is) = ap (λ n. n ∷ map (λ (item : FineItem). item.name) (map (fine_item ok) is)) (fine_item_name_is ok i) ∙ ap (λ ns. i.name ∷ ns) (fine_items is)

  fine_columns : (q : SqlQuery) → (fine_query ok q).columns ≡ map (λ (item : SqlItem). item.name) (out-SqlQuery q).items
  fine_columns q =
      let o = out-SqlQuery q in
      ap (λ q. (fine_query ok q).columns) (sym (roll-out-SqlQuery q)) ∙ (fine_columns-query ok o.distinct o.items o.from o.filter o.order ∙ fine_items o.items)

  same_source : (s : SqlSource) → (fine_source ok s).columns ≡ (source_pieces s).columns
  same_source s = subst (λ s. (fine_source ok s).columns ≡ (source_pieces s).columns) (roll-out-SqlSource s) (by_form (out-SqlSource s))
    where
      by_form : (o : SqlSource-F SqlCond SqlScalar SqlSource SqlFrom SqlItem SqlQuery SqlWhen SumTerm) → (fine_source ok (roll-SqlSource o)).columns ≡ (source_pieces (roll-SqlSource o)).columns
      by_form (SqlSource-F.Table t) = fine_columns-Table ok t ∙ sym (columns-Table t)
      by_form (SqlSource-F.Derived q) = fine_columns-Derived ok q ∙ (fine_columns q ∙ (sym (written_query q) ∙ sym (columns-Derived q)))

  same_names : (fs : List SqlFrom) → map (λ (f : FineFrom). f.names) (map (fine_from ok) fs) ≡ map (λ item. (from_pieces item).names) fs
  same_names [] = refl
  same_names (f ∷ fs) =
      let N : List (List ℕ) → ItemNames = λ cs. record { name = f.name; columns = cs } in
      let one : (fine_from ok f).names ≡ (from_pieces f).names = fine_from_names_is ok f ∙ (ap N (same_source f.source) ∙ sym (from_names_is f)) in
      ap (λ n. n ∷ map (λ (f : FineFrom). f.names) (map (fine_from ok) fs)) one ∙ ap (λ ns. (from_pieces f).names ∷ ns) (same_names fs)

  pub fine_names_are : (fs : List SqlFrom) (outer : Names) → fine_names ok fs outer ≡ inner_names fs outer
  fine_names_are fs outer = ap (λ ns. ns ∷ outer) (same_names fs)
