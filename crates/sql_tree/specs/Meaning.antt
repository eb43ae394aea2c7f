-- What an SQL query means over a set of tables (ISO/IEC 9075:1992: query specification, search
-- condition, EXISTS, CASE). Which rows a part sees is this project's own account of its scopes:
-- those of the query that it stands in, and of the queries round it; a derived table sees none.
use Rattle.std.specs.Prelude.{pos, neg_ℤ, ◌+ℤ◌, Bool, true, false, if◌then◌else◌, Option, Some}
use Rattle.std.specs.Prelude.{None, List, [], ◌∷◌, map, slice_index_or}
use Rattle.std.specs.List.{filter, list_any}
use Rattle.prefsql_values.specs.declared.truth.Truth.{Truth}
use Rattle.prefsql_values.specs.declared.value.Value.{Value}
use Rattle.prefsql_values.specs.declared.value.Value.TheVariants.{Num, Str, Null}
use Rattle.prefsql_values.specs.Truth.{negated, negated_if, all_true, any_true, is_true}
use Rattle.prefsql_values.specs.Value.{comparison, between, one_of, truth_of, is_null}
use Rattle.prefsql_tables.specs.declared.answer.Answer.{Answer}
use Rattle.prefsql_tables.specs.declared.table.AnswerRow.{AnswerRow}
use Rattle.prefsql_tables.specs.Arrangement.{arranged}
use Rattle.prefsql_tables.specs.Distinct.{each_once}
use Rattle.prefsql_tables.specs.Product.{product}
use Rattle.prefsql_tables.specs.Table.{Tables, rows_of, cell_in, no_row}
use Rattle.sql_tree.specs.declared.tree.SqlPlace.{SqlPlace}
use Rattle.sql_tree.specs.declared.tree.SqlCond.{SqlCond, fold-SqlCond}
use Rattle.sql_tree.specs.declared.tree.SqlCond.TheOpen.{SqlCond-F, SqlScalar-F, SqlSource-F}
use Rattle.sql_tree.specs.declared.tree.SqlCond.TheOpen.{SqlFrom-F, SqlItem-F, SqlQuery-F}
use Rattle.sql_tree.specs.declared.tree.SqlCond.TheOpen.{SqlWhen-F, SumTerm-F}
use Rattle.sql_tree.specs.declared.tree.SqlScalar.{SqlScalar, fold-SqlScalar}
use Rattle.sql_tree.specs.declared.tree.SqlSource.{SqlSource, fold-SqlSource}
use Rattle.sql_tree.specs.declared.tree.SqlFrom.{SqlFrom, fold-SqlFrom}
use Rattle.sql_tree.specs.declared.tree.SqlItem.{SqlItem, fold-SqlItem}
use Rattle.sql_tree.specs.declared.tree.SqlQuery.{SqlQuery, out-SqlQuery, fold-SqlQuery}
use Rattle.sql_tree.specs.declared.tree.SqlWhen.{SqlWhen, fold-SqlWhen}
use Rattle.sql_tree.specs.declared.tree.SumTerm.{SumTerm, fold-SumTerm}

-- one row of each FROM item of a query
abbrev pub Scope : Type 0
Scope = List AnswerRow

-- the rows of a query and of those round it, the innermost first
abbrev pub Scopes : Type 0
Scopes = List Scope

-- the value in a column, and NULL where nothing stands
abbrev pub place_value : Scopes → SqlPlace → Value
place_value scopes place =
    cell_in (slice_index_or (slice_index_or scopes place.up []) place.item no_row) place.column

-- ---- sums and choices

-- NULL where one side is NULL
abbrev pub added : Value → Value → Value
added (Num a) (Num b) = Num (a +ℤ b)
added _ _ = Null

abbrev pub signed : Bool → Value → Value
signed true (Num n) = Num (neg_ℤ n)
signed true _ = Null
signed false v = v

abbrev pub sum_of : List Value → Value
sum_of [] = Num (pos 0)
sum_of (v ∷ vs) = added v (sum_of vs)

abbrev pub or_else : Option Value → Value → Value
or_else None v = v
or_else (Some w) v = w

-- the first value of the list
abbrev pub first_some : List (Option Value) → Option Value
first_some [] = None
first_some (None ∷ more) = first_some more
first_some (Some v ∷ more) = Some v

-- ---- what each part of a query means

abbrev pub CondMeaning : Type 0
CondMeaning = Scopes → Truth

abbrev pub ScalarMeaning : Type 0
ScalarMeaning = Scopes → Value

-- its value, where its condition is True
abbrev pub WhenMeaning : Type 0
WhenMeaning = Scopes → Option Value

abbrev pub QueryMeaning : Type 0
QueryMeaning = Scopes → List AnswerRow

-- a FROM item sees no scope
abbrev pub FromMeaning : Type 0
FromMeaning = List AnswerRow

-- one level of each part, with the meaning of the parts below it in their place
abbrev pub Level
    : (Type 0 → Type 0 → Type 0 → Type 0 → Type 0 → Type 0 → Type 0 → Type 0 → Type 0) → Type 0
Level F =
    F CondMeaning ScalarMeaning FromMeaning FromMeaning ScalarMeaning QueryMeaning WhenMeaning
    ScalarMeaning

abbrev pub is_kept : Option CondMeaning → Scopes → Bool
is_kept None scopes = true
is_kept (Some cond) scopes = is_true (cond scopes)

abbrev pub else_value : Option ScalarMeaning → Scopes → Value
else_value None scopes = Null
else_value (Some scalar) scopes = scalar scopes

module _ (tables : Tables) where
  abbrev pub cond_step : Level SqlCond-F → CondMeaning
  cond_step (SqlCond-F.And parts) scopes = all_true (map (λ part. part scopes) parts)
  cond_step (SqlCond-F.Or parts) scopes = any_true (map (λ part. part scopes) parts)
  cond_step (SqlCond-F.Not part) scopes = negated (part scopes)
  cond_step (SqlCond-F.Compare op a b) scopes = comparison op (a scopes) (b scopes)
  cond_step (SqlCond-F.Between negate a low high) scopes =
      negated_if negate (between (a scopes) (low scopes) (high scopes))
  cond_step (SqlCond-F.OneOf negate a list) scopes =
      negated_if negate (one_of (a scopes) (map (λ b. b scopes) list))
  cond_step (SqlCond-F.IsNull negate a) scopes = negated_if negate (truth_of (is_null (a scopes)))
  cond_step (SqlCond-F.Exists query) scopes = truth_of (list_any (λ _. true) (query scopes))

  abbrev pub scalar_step : Level SqlScalar-F → ScalarMeaning
  scalar_step (SqlScalar-F.Column place) scopes = place_value scopes place
  scalar_step (SqlScalar-F.Number n) scopes = Num n
  scalar_step (SqlScalar-F.Chars text) scopes = Str text
  scalar_step (SqlScalar-F.Sum terms) scopes = sum_of (map (λ term. term scopes) terms)
  scalar_step (SqlScalar-F.Case whens last) scopes =
      or_else (first_some (map (λ w. w scopes) whens)) (else_value last scopes)

  abbrev pub when_step : Level SqlWhen-F → WhenMeaning
  when_step w scopes = if is_true (w.cond scopes) then Some (w.value scopes) else None

  abbrev pub term_step : Level SumTerm-F → ScalarMeaning
  term_step term scopes = signed term.minus (term.scalar scopes)

  abbrev pub item_step : Level SqlItem-F → ScalarMeaning
  item_step item = item.value

  abbrev pub source_step : Level SqlSource-F → FromMeaning
  source_step (SqlSource-F.Table table) = rows_of tables table.index
  source_step (SqlSource-F.Derived query) = query []

  abbrev pub from_step : Level SqlFrom-F → FromMeaning
  from_step from = from.source

  -- the product of the FROM items, filtered by True, projected, and with DISTINCT each once
  abbrev pub query_step : Level SqlQuery-F → QueryMeaning
  query_step query scopes =
      let kept = filter (λ scope. is_kept query.filter (scope ∷ scopes)) (product query.from) in
      let rows = map
      (λ scope. record { cells = map (λ item. item (scope ∷ scopes)) query.items })
      kept in
      if query.distinct then each_once rows else rows

  unfoldable pub truth_in : SqlCond → CondMeaning
  truth_in =
      fold-SqlCond _ _ _ _ _ _ _ _ cond_step scalar_step source_step
      from_step item_step query_step when_step term_step

  unfoldable pub value_in : SqlScalar → ScalarMeaning
  value_in =
      fold-SqlScalar _ _ _ _ _ _ _ _ cond_step scalar_step source_step
      from_step item_step query_step when_step term_step

  unfoldable pub source_rows : SqlSource → FromMeaning
  source_rows =
      fold-SqlSource _ _ _ _ _ _ _ _ cond_step scalar_step source_step
      from_step item_step query_step when_step term_step

  unfoldable pub from_rows : SqlFrom → FromMeaning
  from_rows =
      fold-SqlFrom _ _ _ _ _ _ _ _ cond_step scalar_step source_step
      from_step item_step query_step when_step term_step

  unfoldable pub item_value : SqlItem → ScalarMeaning
  item_value =
      fold-SqlItem _ _ _ _ _ _ _ _ cond_step scalar_step source_step
      from_step item_step query_step when_step term_step

  -- the rows of a query that stands in these scopes, in no order but that of the product
  unfoldable pub rows_in : SqlQuery → QueryMeaning
  rows_in =
      fold-SqlQuery _ _ _ _ _ _ _ _ cond_step scalar_step source_step
      from_step item_step query_step when_step term_step

  unfoldable pub when_value : SqlWhen → WhenMeaning
  when_value =
      fold-SqlWhen _ _ _ _ _ _ _ _ cond_step scalar_step source_step
      from_step item_step query_step when_step term_step

  unfoldable pub term_value : SumTerm → ScalarMeaning
  term_value =
      fold-SumTerm _ _ _ _ _ _ _ _ cond_step scalar_step source_step
      from_step item_step query_step when_step term_step

-- the names of the items, and the rows of the query where none stand round it, in the order of its
-- keys and then of all columns
unfoldable pub answer_of : Tables → SqlQuery → Answer
answer_of tables query = record {
  names = map (λ (item : SqlItem). item.name) (out-SqlQuery query).items;
  rows = arranged false (out-SqlQuery query).order (rows_in tables query []);
}
