-- What makes a query well formed, and what it shows to those who see it.
use Rattle.std.proofs.Common.{◌≡◌, suc, ◌≤◌, ◌<◌, Bool, true, Option, List, [], ◌∷◌, map, length, refl, sym, ap, subst, ◌∙◌, arith, inl, inr}
use Rattle.std.specs.List.{list_all}
use Rattle.std.specs.Option.{option_map}
use Rattle.std.proofs.lemmas.Bool.{and_from, le-leb, lt-ltb}
use Rattle.std.proofs.lemmas.List.{length-map}
use Rattle.std.proofs.lemmas.List.Folds.{list_all-map}
use Rattle.prefsql_tables.specs.declared.place.SortKey.{SortKey}
use Rattle.order_laws.proofs.Members.{Among, all_from}
use Rattle.sql_tree.specs.declared.tree.SqlCond.{SqlCond}
use Rattle.sql_tree.specs.declared.tree.SqlFrom.{SqlFrom}
use Rattle.sql_tree.specs.declared.tree.SqlItem.{SqlItem}
use Rattle.sql_tree.specs.Select.{select}
use Rattle.sql_tree.specs.Shown.{ShownColumn, ShownItem, View}
use Rattle.sql_tree.specs.WellFormed.{JudgedFrom, JudgedItem, JudgedQuery, all_differ, filter_well, is_name, judged_cond, judged_query, judged_scalar, own_view, query_step, some_key}
use Rattle.written_query_validity.proofs.Judgements.{judged-select, judged_from, judged_item, judged_item_is, layer}

-- an item has a name, and shows a well formed scalar
pub record IsItem (writing : Bool) (view : View) (item : SqlItem) : Type 0 where
  pub name : is_name item.name ≡ true
  pub value : (judged_scalar writing item.value view).well ≡ true

module _ (writing : Bool) where
  -- the columns that items show to who sees them
  abbrev pub shown_column : View → SqlItem → ShownColumn
  shown_column view item = record { name = item.name; shape = (judged_scalar writing item.value view).shape }

  abbrev pub shown_columns : View → List SqlItem → List ShownColumn
  shown_columns view items = map (shown_column view) items

module _ (writing : Bool) (distinct : Bool) (items : List SqlItem) (from : List SqlFrom) (filter : Option SqlCond) (order : List SortKey) (round : View) where
  abbrev query_of : JudgedQuery
  query_of = judged_query writing (select distinct items from filter order) round

  found : query_of ≡ query_step (layer writing (record { distinct = distinct; items = items; from = from; filter = filter; order = order })) round
  found = λ j. judged-select writing distinct items from filter order j round

  abbrev own : List ShownItem
  own = own_view (map (judged_from writing) from)

  pub ordered : (judged_query writing (select distinct items from filter order) round).has_order ≡ some_key order
  ordered = ap (λ (q : JudgedQuery). q.has_order) found

  columns_read : (view : View) (more : List SqlItem) → map (λ (item : JudgedItem). item.column) (map (λ item. item view) (map (judged_item writing) more)) ≡ shown_columns writing view more
  columns_read view [] = refl
  columns_read view (item ∷ more) = λ j. (judged_item_is writing item view j).column ∷ columns_read view more j

  items_well : (view : View) (more : List SqlItem) → ((item : SqlItem) → Among more item → IsItem writing view item)
      → list_all (λ (item : JudgedItem). item.well) (map (λ item. item view) (map (judged_item writing) more)) ≡ true
  items_well view [] each = refl
  items_well view (item ∷ more) each =
      let is = each item (inl refl) in
      and_from _ _ (ap (λ (j : JudgedItem). j.well) (judged_item_is writing item view) ∙ and_from _ _ is.name is.value) (items_well view more (λ other there. each other (inr there)))

  items_length : (view : View) (more : List SqlItem) → length (map (λ item. item view) (map (judged_item writing) more)) ≡ length more
  items_length view [] = refl
  items_length view (item ∷ more) = ap suc (items_length view more)

  module _ (shown : List ShownItem) (sees : own ≡ shown) where
    pub columns_shown : (judged_query writing (select distinct items from filter order) round).columns ≡ shown_columns writing (shown ∷ round) items
    columns_shown =
        ap (λ (q : JudgedQuery). q.columns) found
        ∙ columns_read (own ∷ round) items
        ∙ ap (λ own_items. shown_columns writing (own_items ∷ round) items) sees

    pub well_formed : 1 ≤ length items → ((item : SqlItem) → Among items item → IsItem writing (shown ∷ round) item) → 1 ≤ length from → ((f : SqlFrom) → Among from f → (judged_from writing f).well ≡ true)
        → all_differ (map (λ (item : ShownItem). item.name) shown) ≡ true → filter_well (option_map (judged_cond writing) filter) (shown ∷ round) ≡ true
        → ((key : SortKey) → Among order key → key.column < length items) → (judged_query writing (select distinct items from filter order) round).well ≡ true
    well_formed some_item each_item some_from each_from differ filtered keys =
        let view = own ∷ round in
        let back : shown ≡ own = sym sees in
        let count = items_length view items in
        ap (λ (q : JudgedQuery). q.well) found
        ∙ and_from _ _
        (and_from _ _
        (and_from _ _
        (and_from _ _
        (and_from _ _
        (and_from _ _ (le-leb 1 _ (omega (arith, count, some_item)))
        (items_well view items (subst (λ seen. (item : SqlItem) → Among items item → IsItem writing (seen ∷ round) item) back each_item)))
        (le-leb 1 _ (let same = length-map from (judged_from writing) in omega (arith, same, some_from))))
        (list_all-map (λ (f : JudgedFrom). f.well) (judged_from writing) from ∙ all_from (λ f. (judged_from writing f).well) from each_from))
        (subst (λ seen. all_differ (map (λ (item : ShownItem). item.name) seen) ≡ true) back differ))
        (subst (λ seen. filter_well (option_map (judged_cond writing) filter) (seen ∷ round) ≡ true) back filtered))
        (all_from _ order (λ key there. lt-ltb key.column _ (let small = keys key there in omega (arith, count, small))))
