-- What is found of each part of a query, by its parts.
use Rattle.std.specs.Prelude.{Bool, true, nat_le, nat_lt}
use Rattle.sql_tree.specs.Shown.{View, ShownItem, column_at, number_shape, text_shape, table_columns}
use Rattle.sql_tree.specs.WellFormed.{JudgedWhen, JudgedTerm, JudgedItem, JudgedSource, JudgedFrom, JudgedScalar, JudgedQuery, judged_cond as cond_judged, judged_scalar as scalar_judged, judged_query as query_judged, cond_step, scalar_step, source_step, from_step, item_step, query_step, when_step, term_step, agrees, is_short, judged_sum, judged_choice, judged_at, is_name, all_differ, own_view, filter_well, some_key, is_in_range}
use Rattle.sql_tree.specs.declared.tree.SqlCond.{SqlCond, roll-SqlCond}
use Rattle.sql_tree.specs.declared.tree.SqlScalar.{SqlScalar, roll-SqlScalar}
use Rattle.sql_tree.specs.declared.tree.SqlQuery.{SqlQuery, roll-SqlQuery}
use Rattle.sql_tree.specs.declared.tree.SqlSource.{SqlSource, fold-SqlSource, roll-SqlSource}
use Rattle.sql_tree.specs.declared.tree.SqlFrom.{SqlFrom, fold-SqlFrom}
use Rattle.sql_tree.specs.declared.tree.SqlItem.{SqlItem, fold-SqlItem}
use Rattle.sql_tree.specs.declared.tree.SqlWhen.{SqlWhen, fold-SqlWhen}
use Rattle.sql_tree.specs.declared.tree.SumTerm.{SumTerm, fold-SumTerm}
use Rattle.std.proofs.Common.{◌≡◌, ℕ, ℤ, Bool, true, false, ◌&&◌, not, rules, Option, Some, None, List, [], ◌∷◌, map, length}
use Rattle.std.specs.List.{list_all}
use Rattle.std.specs.Option.{option_map}
use Rattle.prefsql_values.specs.declared.value.CompareOp.{CompareOp}
use Rattle.prefsql_tables.specs.declared.place.SortKey.{SortKey}
use Rattle.prefsql_tables.specs.Names.{names_of}
use Rattle.sql_tree.specs.declared.tree.SqlCond.TheOpen.{SqlCond-F, SqlScalar-F, SqlSource-F}
use Rattle.sql_tree.specs.declared.tree.SqlCond.TheFolds.{the_lemmas, fold-roll-SqlCond, fold-roll-SqlScalar, fold-roll-SqlSource, fold-roll-SqlQuery}
use Rattle.sql_tree.specs.declared.tree.SqlPlace.{SqlPlace}
use Rattle.sql_tree.specs.declared.tree.SqlTable.{SqlTable}

unfoldable pub judged_source : SqlSource → JudgedSource
judged_source = fold-SqlSource _ _ _ _ _ _ _ _ cond_step (scalar_step false) source_step from_step item_step query_step when_step term_step

unfoldable pub judged_from : SqlFrom → JudgedFrom
judged_from = fold-SqlFrom _ _ _ _ _ _ _ _ cond_step (scalar_step false) source_step from_step item_step query_step when_step term_step

unfoldable pub judged_item : SqlItem → View → JudgedItem
judged_item = fold-SqlItem _ _ _ _ _ _ _ _ cond_step (scalar_step false) source_step from_step item_step query_step when_step term_step

unfoldable pub judged_when : SqlWhen → View → JudgedWhen
judged_when = fold-SqlWhen _ _ _ _ _ _ _ _ cond_step (scalar_step false) source_step from_step item_step query_step when_step term_step

unfoldable pub judged_term : SumTerm → View → JudgedTerm
judged_term = fold-SumTerm _ _ _ _ _ _ _ _ cond_step (scalar_step false) source_step from_step item_step query_step when_step term_step

abbrev pub judged_cond : SqlCond → View → Bool
judged_cond = cond_judged false

abbrev pub judged_scalar : SqlScalar → View → JudgedScalar
judged_scalar = scalar_judged false

abbrev pub judged_query : SqlQuery → View → JudgedQuery
judged_query = query_judged false

pub judged-And : (parts : List SqlCond) (view : View) → judged_cond (roll-SqlCond (SqlCond-F.And parts)) view ≡ nat_le 2 (length (map judged_cond parts)) && list_all (λ (part : View → Bool). part view) (map judged_cond parts)
unfolding cond_judged scalar_judged judged_source judged_from judged_item query_judged judged_when judged_term
judged-And parts view = λ j. fold-roll-SqlCond _ _ _ _ _ _ _ _ cond_step (scalar_step false) source_step from_step item_step query_step when_step term_step (SqlCond-F.And parts) j view

pub judged-Or : (parts : List SqlCond) (view : View) → judged_cond (roll-SqlCond (SqlCond-F.Or parts)) view ≡ nat_le 2 (length (map judged_cond parts)) && list_all (λ (part : View → Bool). part view) (map judged_cond parts)
unfolding cond_judged scalar_judged judged_source judged_from judged_item query_judged judged_when judged_term
judged-Or parts view = λ j. fold-roll-SqlCond _ _ _ _ _ _ _ _ cond_step (scalar_step false) source_step from_step item_step query_step when_step term_step (SqlCond-F.Or parts) j view

pub judged-Not : (part : SqlCond) (view : View) → judged_cond (roll-SqlCond (SqlCond-F.Not part)) view ≡ judged_cond part view
unfolding cond_judged scalar_judged judged_source judged_from judged_item query_judged judged_when judged_term
judged-Not part view = λ j. fold-roll-SqlCond _ _ _ _ _ _ _ _ cond_step (scalar_step false) source_step from_step item_step query_step when_step term_step (SqlCond-F.Not part) j view

pub judged-Compare : (op : CompareOp) (a b : SqlScalar) (view : View) → judged_cond (roll-SqlCond (SqlCond-F.Compare op a b)) view ≡ (judged_scalar a view).well && agrees (judged_scalar a view) (judged_scalar b view)
unfolding cond_judged scalar_judged judged_source judged_from judged_item query_judged judged_when judged_term
judged-Compare op a b view = λ j. fold-roll-SqlCond _ _ _ _ _ _ _ _ cond_step (scalar_step false) source_step from_step item_step query_step when_step term_step (SqlCond-F.Compare op a b) j view

pub judged-Between : (negated : Bool) (a low high : SqlScalar) (view : View) → judged_cond (roll-SqlCond (SqlCond-F.Between negated a low high)) view ≡ (judged_scalar a view).well && agrees (judged_scalar a view) (judged_scalar low view) && agrees (judged_scalar a view) (judged_scalar high view)
unfolding cond_judged scalar_judged judged_source judged_from judged_item query_judged judged_when judged_term
judged-Between negated a low high view = λ j. fold-roll-SqlCond _ _ _ _ _ _ _ _ cond_step (scalar_step false) source_step from_step item_step query_step when_step term_step (SqlCond-F.Between negated a low high) j view

pub judged-OneOf : (negated : Bool) (a : SqlScalar) (list : List SqlScalar) (view : View) → judged_cond (roll-SqlCond (SqlCond-F.OneOf negated a list)) view ≡ (judged_scalar a view).well && nat_le 1 (length (map judged_scalar list)) && list_all (λ (b : View → JudgedScalar). agrees (judged_scalar a view) (b view)) (map judged_scalar list)
unfolding cond_judged scalar_judged judged_source judged_from judged_item query_judged judged_when judged_term
judged-OneOf negated a list view = λ j. fold-roll-SqlCond _ _ _ _ _ _ _ _ cond_step (scalar_step false) source_step from_step item_step query_step when_step term_step (SqlCond-F.OneOf negated a list) j view

pub judged-IsNull : (negated : Bool) (a : SqlScalar) (view : View) → judged_cond (roll-SqlCond (SqlCond-F.IsNull negated a)) view ≡ (judged_scalar a view).well
unfolding cond_judged scalar_judged judged_source judged_from judged_item query_judged judged_when judged_term
judged-IsNull negated a view = λ j. fold-roll-SqlCond _ _ _ _ _ _ _ _ cond_step (scalar_step false) source_step from_step item_step query_step when_step term_step (SqlCond-F.IsNull negated a) j view

pub judged-Exists : (query : SqlQuery) (view : View) → judged_cond (roll-SqlCond (SqlCond-F.Exists query)) view ≡ (judged_query query view).well && not (judged_query query view).has_order
unfolding cond_judged scalar_judged judged_source judged_from judged_item query_judged judged_when judged_term
judged-Exists query view = λ j. fold-roll-SqlCond _ _ _ _ _ _ _ _ cond_step (scalar_step false) source_step from_step item_step query_step when_step term_step (SqlCond-F.Exists query) j view

pub judged-Column : (place : SqlPlace) (view : View) → judged_scalar (roll-SqlScalar (SqlScalar-F.Column place)) view ≡ record { shape = (column_at view place).shape; well = is_in_range view place; is_sum = false }
unfolding cond_judged scalar_judged judged_source judged_from judged_item query_judged judged_when judged_term
judged-Column place view = λ j. fold-roll-SqlScalar _ _ _ _ _ _ _ _ cond_step (scalar_step false) source_step from_step item_step query_step when_step term_step (SqlScalar-F.Column place) j view

pub judged-Number : (n : ℤ) (view : View) → judged_scalar (roll-SqlScalar (SqlScalar-F.Number n)) view ≡ record { shape = number_shape; well = is_short n; is_sum = false }
unfolding cond_judged scalar_judged judged_source judged_from judged_item query_judged judged_when judged_term
judged-Number n view = λ j. fold-roll-SqlScalar _ _ _ _ _ _ _ _ cond_step (scalar_step false) source_step from_step item_step query_step when_step term_step (SqlScalar-F.Number n) j view

pub judged-Chars : (text : List ℕ) (view : View) → judged_scalar (roll-SqlScalar (SqlScalar-F.Chars text)) view ≡ record { shape = text_shape; well = true; is_sum = false }
unfolding cond_judged scalar_judged judged_source judged_from judged_item query_judged judged_when judged_term
judged-Chars text view = λ j. fold-roll-SqlScalar _ _ _ _ _ _ _ _ cond_step (scalar_step false) source_step from_step item_step query_step when_step term_step (SqlScalar-F.Chars text) j view

pub judged-Sum : (terms : List SumTerm) (view : View) → judged_scalar (roll-SqlScalar (SqlScalar-F.Sum terms)) view ≡ judged_sum (map (λ (term : View → JudgedTerm). term view) (map judged_term terms))
unfolding cond_judged scalar_judged judged_source judged_from judged_item query_judged judged_when judged_term
judged-Sum terms view = λ j. fold-roll-SqlScalar _ _ _ _ _ _ _ _ cond_step (scalar_step false) source_step from_step item_step query_step when_step term_step (SqlScalar-F.Sum terms) j view

pub judged-Case : (whens : List SqlWhen) (last : Option SqlScalar) (view : View) → judged_scalar (roll-SqlScalar (SqlScalar-F.Case whens last)) view ≡ judged_choice (map (λ (w : View → JudgedWhen). w view) (map judged_when whens)) (judged_at view (option_map judged_scalar last))
unfolding cond_judged scalar_judged judged_source judged_from judged_item query_judged judged_when judged_term
judged-Case whens None view = λ j. fold-roll-SqlScalar _ _ _ _ _ _ _ _ cond_step (scalar_step false) source_step from_step item_step query_step when_step term_step (SqlScalar-F.Case whens None) j view
judged-Case whens (Some value) view = λ j. fold-roll-SqlScalar _ _ _ _ _ _ _ _ cond_step (scalar_step false) source_step from_step item_step query_step when_step term_step (SqlScalar-F.Case whens (Some value)) j view

pub judged_term_is : (term : SumTerm) (view : View) → judged_term term view ≡ record { minus = term.minus; scalar = judged_scalar term.scalar view }
unfolding cond_judged scalar_judged judged_source judged_from judged_item query_judged judged_when judged_term
judged_term_is term view = search (rules, the_lemmas)

pub judged_when_is : (when : SqlWhen) (view : View) → judged_when when view ≡ record { cond = judged_cond when.cond view; value = judged_scalar when.value view }
unfolding cond_judged scalar_judged judged_source judged_from judged_item query_judged judged_when judged_term
judged_when_is when view = search (rules, the_lemmas)

pub judged_item_is : (item : SqlItem) (view : View) → judged_item item view ≡ record { column = record { name = item.name; shape = (judged_scalar item.value view).shape }; well = is_name item.name && (judged_scalar item.value view).well }
unfolding cond_judged scalar_judged judged_source judged_from judged_item query_judged judged_when judged_term
judged_item_is item view = search (rules, the_lemmas)

pub judged_from_is : (from : SqlFrom) → judged_from from ≡ record { item = record { name = from.name; columns = (judged_source from.source).columns }; well = is_name from.name && (judged_source from.source).well }
unfolding cond_judged scalar_judged judged_source judged_from judged_item query_judged judged_when judged_term
judged_from_is from = search (rules, the_lemmas)

pub judged-Table : (table : SqlTable) → judged_source (roll-SqlSource (SqlSource-F.Table table)) ≡ record {
  columns = table_columns table.schema.columns;
  well = is_name table.name && list_all is_name (names_of table.schema.columns) && all_differ (names_of table.schema.columns);
}
unfolding cond_judged scalar_judged judged_source judged_from judged_item query_judged judged_when judged_term
judged-Table table = fold-roll-SqlSource _ _ _ _ _ _ _ _ cond_step (scalar_step false) source_step from_step item_step query_step when_step term_step (SqlSource-F.Table table)

pub judged-Derived : (query : SqlQuery) → judged_source (roll-SqlSource (SqlSource-F.Derived query)) ≡ record { columns = (judged_query query []).columns; well = (judged_query query []).well && not (judged_query query []).has_order }
unfolding cond_judged scalar_judged judged_source judged_from judged_item query_judged judged_when judged_term
judged-Derived query = fold-roll-SqlSource _ _ _ _ _ _ _ _ cond_step (scalar_step false) source_step from_step item_step query_step when_step term_step (SqlSource-F.Derived query)

-- the FROM items that the parts of a query see first
abbrev pub own_items : List SqlFrom → List ShownItem
own_items from = own_view (map judged_from from)

abbrev pub judged_parts : List SqlItem → List SqlFrom → Option SqlCond → List SortKey → View → JudgedQuery
judged_parts items from filter order round =
    let view = own_items from ∷ round in
    let judged = map (λ (item : View → JudgedItem). item view) (map judged_item items) in
    record {
      columns = map (λ (item : JudgedItem). item.column) judged;
      well =
          nat_le 1 (length judged) && list_all (λ (item : JudgedItem). item.well) judged
          && nat_le 1 (length (map judged_from from)) && list_all (λ (f : JudgedFrom). f.well) (map judged_from from) && all_differ (map (λ (item : ShownItem). item.name) (own_items from))
          && filter_well (option_map judged_cond filter) view && list_all (λ (key : SortKey). nat_lt key.column (length judged)) order;
      has_order = some_key order;
    }

pub judged_query_is : (distinct : Bool) (items : List SqlItem) (from : List SqlFrom) (filter : Option SqlCond) (order : List SortKey) (round : View) →
    judged_query (roll-SqlQuery (record { distinct = distinct; items = items; from = from; filter = filter; order = order })) round ≡ judged_parts items from filter order round
unfolding cond_judged scalar_judged judged_source judged_from judged_item query_judged judged_when judged_term
judged_query_is distinct items from None order round = λ j. fold-roll-SqlQuery _ _ _ _ _ _ _ _ cond_step (scalar_step false) source_step from_step item_step query_step when_step term_step (record { distinct = distinct; items = items; from = from; filter = None; order = order }) j round
judged_query_is distinct items from (Some cond) order round = λ j. fold-roll-SqlQuery _ _ _ _ _ _ _ _ cond_step (scalar_step false) source_step from_step item_step query_step when_step term_step (record { distinct = distinct; items = items; from = from; filter = Some cond; order = order }) j round
