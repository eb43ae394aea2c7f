-- Which queries are well formed: what is asked of each part, by what it sees (ISO/IEC 9075:1992 for
-- domains and scopes; names, sizes and bounds are this project's own). Where a query is to be
-- written too, each column must be told by its names.
use Rattle.std.specs.Prelude.{ℕ, ℤ, ◌^◌, ◌≤◌, length, Bool, true, false, not, ◌&&◌, IsTrue, nat_eq}
use Rattle.std.specs.Prelude.{nat_le, nat_lt, Option, Some, None, List, [], ◌∷◌, ◌++◌, map, take}
use Rattle.std.specs.List.{count_by, list_all, list_any}
use Rattle.std.specs.Int.RustNames.{unsigned_abs}
use Rattle.std.specs.Str.{bytes_eq, chars}
use Rattle.prefsql_values.specs.declared.value.Domain.{Domain}
use Rattle.prefsql_values.specs.declared.value.Domain.TheVariants.{Integer, Chars}
use Rattle.prefsql_tables.specs.declared.place.SortKey.{SortKey}
use Rattle.prefsql_tables.specs.Names.{names_of}
use Rattle.sql_tree.specs.declared.tree.SqlPlace.{SqlPlace}
use Rattle.sql_tree.specs.declared.tree.SqlCond.{SqlCond, fold-SqlCond}
use Rattle.sql_tree.specs.declared.tree.SqlCond.TheOpen.{SqlCond-F, SqlScalar-F, SqlSource-F}
use Rattle.sql_tree.specs.declared.tree.SqlCond.TheOpen.{SqlFrom-F, SqlItem-F, SqlQuery-F}
use Rattle.sql_tree.specs.declared.tree.SqlCond.TheOpen.{SqlWhen-F, SumTerm-F}
use Rattle.sql_tree.specs.declared.tree.SqlScalar.{SqlScalar, fold-SqlScalar}
use Rattle.sql_tree.specs.declared.tree.SqlQuery.{SqlQuery, fold-SqlQuery}
use Rattle.sql_tree.specs.Nesting.{nesting}
use Rattle.sql_tree.specs.Shown.{Shape, ShownColumn, ShownItem, View, choice_shape, column_at}
use Rattle.sql_tree.specs.Shown.{item_at, items_at, number_shape, sum_bound, table_columns}
use Rattle.sql_tree.specs.Shown.{text_shape}

-- ---- small tests

abbrev pub is_name : List ℕ → Bool
is_name text = nat_le 1 (length (chars text)) && nat_le (length (chars text)) 64

abbrev pub is_short : ℤ → Bool
is_short n = nat_lt (unsigned_abs n) (10 ^ 18)

abbrev pub domain_eq : Domain → Domain → Bool
domain_eq Integer Integer = true
domain_eq Integer Chars = false
domain_eq Chars Integer = false
domain_eq Chars Chars = true

-- no two names are equal
abbrev pub all_differ : List (List ℕ) → Bool
all_differ [] = true
all_differ (name ∷ names) = not (list_any (bytes_eq name) names) && all_differ names

-- there is such a scope, such an item in it, and such a column in that
abbrev pub is_in_range : View → SqlPlace → Bool
is_in_range view place =
    nat_lt place.up (length view) && nat_lt place.item (length (items_at view place.up))
    && nat_lt place.column (length (item_at view place.up place.item).columns)

-- no other column of its item has the column's name, and no item of a scope further in has the
-- item's name
abbrev pub is_told : View → SqlPlace → Bool
is_told view place =
    let item = item_at view place.up place.item in
    let is_column_alike =
    λ (column : ShownColumn). bytes_eq (column_at view place).name column.name in
    let is_item_alike = λ (other : ShownItem). bytes_eq item.name other.name in
    nat_eq (count_by is_column_alike item.columns) 1
    && list_all (λ (items : List ShownItem). not (list_any is_item_alike items))
    (take place.up view)

-- ---- what is found of each part

-- its domain and bound, whether it is well formed, and whether it is a sum
pub record JudgedScalar : Type 0 where
  pub shape : Shape
  pub well : Bool
  pub is_sum : Bool

pub record JudgedWhen : Type 0 where
  pub cond : Bool
  pub value : JudgedScalar

pub record JudgedTerm : Type 0 where
  pub minus : Bool
  pub scalar : JudgedScalar

pub record JudgedItem : Type 0 where
  pub column : ShownColumn
  pub well : Bool

pub record JudgedSource : Type 0 where
  pub columns : List ShownColumn
  pub well : Bool

pub record JudgedFrom : Type 0 where
  pub item : ShownItem
  pub well : Bool

pub record JudgedQuery : Type 0 where
  pub columns : List ShownColumn
  pub well : Bool
  pub has_order : Bool

abbrev pub Level
    : (Type 0 → Type 0 → Type 0 → Type 0 → Type 0 → Type 0 → Type 0 → Type 0 → Type 0) → Type 0
Level F =
    F (View → Bool) (View → JudgedScalar) JudgedSource JudgedFrom (View → JudgedItem)
    (View → JudgedQuery) (View → JudgedWhen) (View → JudgedTerm)

-- well formed, and of the domain of the other
abbrev pub agrees : JudgedScalar → JudgedScalar → Bool
agrees a b = b.well && domain_eq a.shape.domain b.shape.domain

-- no bound is above 10^36
abbrev pub is_bounded : Shape → Bool
is_bounded shape = nat_le shape.bound (10 ^ 36)

abbrev pub cond_step : Level SqlCond-F → View → Bool
cond_step (SqlCond-F.And parts) view = nat_le 2 (length parts) && list_all (λ part. part view) parts
cond_step (SqlCond-F.Or parts) view = nat_le 2 (length parts) && list_all (λ part. part view) parts
cond_step (SqlCond-F.Not part) view = part view
cond_step (SqlCond-F.Compare op a b) view = (a view).well && agrees (a view) (b view)
cond_step (SqlCond-F.Between negate a low high) view =
    (a view).well && agrees (a view) (low view) && agrees (a view) (high view)
cond_step (SqlCond-F.OneOf negate a list) view =
    (a view).well && nat_le 1 (length list) && list_all (λ b. agrees (a view) (b view)) list
cond_step (SqlCond-F.IsNull negate a) view = (a view).well
cond_step (SqlCond-F.Exists query) view = (query view).well && not (query view).has_order

-- a term of a sum is a number and no sum
abbrev pub is_term : JudgedTerm → Bool
is_term term =
    term.scalar.well && domain_eq term.scalar.shape.domain Integer && not term.scalar.is_sum

abbrev pub first_is_plus : List JudgedTerm → Bool
first_is_plus [] = true
first_is_plus (term ∷ terms) = not term.minus

abbrev pub term_shapes : List JudgedTerm → List Shape
term_shapes = map (λ (term : JudgedTerm). term.scalar.shape)

abbrev pub result_shapes : List JudgedWhen → Option JudgedScalar → List Shape
result_shapes whens None = map (λ (w : JudgedWhen). w.value.shape) whens
result_shapes whens (Some last) = map (λ (w : JudgedWhen). w.value.shape) whens ++ last.shape ∷ []

-- a WHEN is well formed and its result has the domain of the choice
abbrev pub is_when : Domain → JudgedWhen → Bool
is_when domain w = w.cond && w.value.well && domain_eq domain w.value.shape.domain

abbrev pub is_otherwise : Domain → Option JudgedScalar → Bool
is_otherwise domain None = true
is_otherwise domain (Some last) = last.well && domain_eq domain last.shape.domain

abbrev pub judged_at : View → Option (View → JudgedScalar) → Option JudgedScalar
judged_at view None = None
judged_at view (Some last) = Some (last view)

abbrev pub judged_sum : List JudgedTerm → JudgedScalar
judged_sum terms =
    let shape : Shape = record { domain = Integer; bound = sum_bound (term_shapes terms) } in
    record {
      shape = shape;
      well =
          nat_le 2 (length terms) && list_all is_term terms && first_is_plus terms
          && is_bounded shape;
      is_sum = true;
    }

abbrev pub judged_choice : List JudgedWhen → Option JudgedScalar → JudgedScalar
judged_choice whens last =
    let shape = choice_shape (result_shapes whens last) in
    record {
      shape = shape;
      well =
          nat_le 1 (length whens) && list_all (is_when shape.domain) whens
          && is_otherwise shape.domain last;
      is_sum = false;
    }

-- a column is in range, and for writing told by its names
abbrev pub is_column : Bool → View → SqlPlace → Bool
is_column false view place = is_in_range view place
is_column true view place = is_in_range view place && is_told view place

abbrev pub scalar_step : Bool → Level SqlScalar-F → View → JudgedScalar
scalar_step writing (SqlScalar-F.Column place) view = record {
  shape = (column_at view place).shape;
  well = is_column writing view place;
  is_sum = false;
}
scalar_step writing (SqlScalar-F.Number n) view =
    record { shape = number_shape; well = is_short n; is_sum = false }
scalar_step writing (SqlScalar-F.Chars text) view =
    record { shape = text_shape; well = true; is_sum = false }
scalar_step writing (SqlScalar-F.Sum terms) view =
    judged_sum (map (λ term. term view) terms)
scalar_step writing (SqlScalar-F.Case whens last) view =
    judged_choice (map (λ w. w view) whens) (judged_at view last)

abbrev pub when_step : Level SqlWhen-F → View → JudgedWhen
when_step w view = record { cond = w.cond view; value = w.value view }

abbrev pub term_step : Level SumTerm-F → View → JudgedTerm
term_step term view = record { minus = term.minus; scalar = term.scalar view }

abbrev pub item_step : Level SqlItem-F → View → JudgedItem
item_step item view = record {
  column = record { name = item.name; shape = (item.value view).shape };
  well = is_name item.name && (item.value view).well;
}

-- a derived table sees no scope round it and has no order; a table's columns have different names
abbrev pub source_step : Level SqlSource-F → JudgedSource
source_step (SqlSource-F.Table table) = record {
  columns = table_columns table.schema.columns;
  well =
      is_name table.name && list_all is_name (names_of table.schema.columns)
      && all_differ (names_of table.schema.columns);
}
source_step (SqlSource-F.Derived query) =
    record { columns = (query []).columns; well = (query []).well && not (query []).has_order }

abbrev pub from_step : Level SqlFrom-F → JudgedFrom
from_step from = record {
  item = record { name = from.name; columns = from.source.columns };
  well = is_name from.name && from.source.well;
}

abbrev pub filter_well : Option (View → Bool) → View → Bool
filter_well None view = true
filter_well (Some cond) view = cond view

abbrev pub some_key : List SortKey → Bool
some_key [] = false
some_key (key ∷ keys) = true

-- its FROM items, which its parts see before the scopes round it
abbrev pub own_view : List JudgedFrom → List ShownItem
own_view = map (λ (from : JudgedFrom). from.item)

abbrev pub query_step : Level SqlQuery-F → View → JudgedQuery
query_step query round =
    let view = own_view query.from ∷ round in
    let items = map (λ item. item view) query.items in
    record {
      columns = map (λ (item : JudgedItem). item.column) items;
      well =
          nat_le 1 (length items) && list_all (λ (item : JudgedItem). item.well) items
          && nat_le 1 (length query.from) && list_all (λ (from : JudgedFrom). from.well) query.from
          && all_differ (map (λ (item : ShownItem). item.name) (own_view query.from))
          && filter_well query.filter view
          && list_all (λ (key : SortKey). nat_lt key.column (length items)) query.order;
      has_order = some_key query.order;
    }

module _ (writing : Bool) where
  unfoldable pub judged_cond : SqlCond → View → Bool
  judged_cond =
      fold-SqlCond _ _ _ _ _ _ _ _ cond_step (scalar_step writing) source_step
      from_step item_step query_step when_step term_step

  unfoldable pub judged_scalar : SqlScalar → View → JudgedScalar
  judged_scalar =
      fold-SqlScalar _ _ _ _ _ _ _ _ cond_step (scalar_step writing) source_step
      from_step item_step query_step when_step term_step

  unfoldable pub judged_query : SqlQuery → View → JudgedQuery
  judged_query =
      fold-SqlQuery _ _ _ _ _ _ _ _ cond_step (scalar_step writing) source_step
      from_step item_step query_step when_step term_step

-- with no scope round it
abbrev pub IsWellFormed : SqlQuery → Type 0
IsWellFormed query = IsTrue (judged_query false query []).well

-- well formed, and fit to be written: each column is told by its names too, and the text nests at
-- most 256 deep
pub record IsValid (query : SqlQuery) : Type 0 where
  pub formed : IsWellFormed query
  pub told : IsTrue (judged_query true query []).well
  pub nested : nesting query ≤ 256
