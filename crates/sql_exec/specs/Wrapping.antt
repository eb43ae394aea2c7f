-- What SQL queries mean where each sum, and each number with the other sign, is taken in the range
-- of a 128-bit number, as the machine takes it: a result past an end goes on at the other. In all
-- else it is what they mean.
use Rattle.std.specs.Prelude.{Bool, true, false, List, map}
use Rattle.std.specs.Int.{int_wrap, w128}
use Rattle.prefsql_values.specs.declared.value.Value.{Value}
use Rattle.prefsql_values.specs.declared.value.Value.TheVariants.{Num, Str, Null}
use Rattle.prefsql_tables.specs.Table.{Tables}
use Rattle.sql_tree.specs.declared.tree.SqlCond.{SqlCond, fold-SqlCond}
use Rattle.sql_tree.specs.declared.tree.SqlCond.TheOpen.{SqlScalar-F, SumTerm-F}
use Rattle.sql_tree.specs.declared.tree.SqlScalar.{SqlScalar, fold-SqlScalar}
use Rattle.sql_tree.specs.declared.tree.SqlSource.{SqlSource, fold-SqlSource}
use Rattle.sql_tree.specs.declared.tree.SqlFrom.{SqlFrom, fold-SqlFrom}
use Rattle.sql_tree.specs.declared.tree.SqlItem.{SqlItem, fold-SqlItem}
use Rattle.sql_tree.specs.declared.tree.SqlQuery.{SqlQuery, fold-SqlQuery}
use Rattle.sql_tree.specs.declared.tree.SqlWhen.{SqlWhen, fold-SqlWhen}
use Rattle.sql_tree.specs.declared.tree.SumTerm.{SumTerm, fold-SumTerm}
use Rattle.sql_tree.specs.Meaning.{CondMeaning, FromMeaning, Level, QueryMeaning, ScalarMeaning}
use Rattle.sql_tree.specs.Meaning.{WhenMeaning, cond_step, else_value, first_some, from_step}
use Rattle.sql_tree.specs.Meaning.{item_step, or_else, place_value, query_step, signed, source_step}
use Rattle.sql_tree.specs.Meaning.{sum_of, when_step}

-- the value, where a number is taken in the range
abbrev pub wrapped : Value → Value
wrapped (Num n) = Num (int_wrap w128 n)
wrapped (Str text) = Str text
wrapped Null = Null

abbrev pub wrapped_sum : List Value → Value
wrapped_sum values = wrapped (sum_of values)

abbrev pub wrapped_sign : Bool → Value → Value
wrapped_sign true value = wrapped (signed true value)
wrapped_sign false value = value

abbrev pub scalar_step : Level SqlScalar-F → ScalarMeaning
scalar_step (SqlScalar-F.Column place) scopes = place_value scopes place
scalar_step (SqlScalar-F.Number n) scopes = Num n
scalar_step (SqlScalar-F.Chars text) scopes = Str text
scalar_step (SqlScalar-F.Sum terms) scopes = wrapped_sum (map (λ term. term scopes) terms)
scalar_step (SqlScalar-F.Case whens last) scopes =
    or_else (first_some (map (λ w. w scopes) whens)) (else_value last scopes)

abbrev pub term_step : Level SumTerm-F → ScalarMeaning
term_step term scopes = wrapped_sign term.minus (term.scalar scopes)

module _ (tables : Tables) where
  unfoldable pub truth_in : SqlCond → CondMeaning
  truth_in =
      fold-SqlCond _ _ _ _ _ _ _ _ (cond_step tables) scalar_step (source_step tables)
      (from_step tables) (item_step tables) (query_step tables) (when_step tables) term_step

  unfoldable pub value_in : SqlScalar → ScalarMeaning
  value_in =
      fold-SqlScalar _ _ _ _ _ _ _ _ (cond_step tables) scalar_step (source_step tables)
      (from_step tables) (item_step tables) (query_step tables) (when_step tables) term_step

  unfoldable pub source_rows : SqlSource → FromMeaning
  source_rows =
      fold-SqlSource _ _ _ _ _ _ _ _ (cond_step tables) scalar_step (source_step tables)
      (from_step tables) (item_step tables) (query_step tables) (when_step tables) term_step

  unfoldable pub from_rows : SqlFrom → FromMeaning
  from_rows =
      fold-SqlFrom _ _ _ _ _ _ _ _ (cond_step tables) scalar_step (source_step tables)
      (from_step tables) (item_step tables) (query_step tables) (when_step tables) term_step

  unfoldable pub item_value : SqlItem → ScalarMeaning
  item_value =
      fold-SqlItem _ _ _ _ _ _ _ _ (cond_step tables) scalar_step (source_step tables)
      (from_step tables) (item_step tables) (query_step tables) (when_step tables) term_step

  unfoldable pub rows_in : SqlQuery → QueryMeaning
  rows_in =
      fold-SqlQuery _ _ _ _ _ _ _ _ (cond_step tables) scalar_step (source_step tables)
      (from_step tables) (item_step tables) (query_step tables) (when_step tables) term_step

  unfoldable pub when_value : SqlWhen → WhenMeaning
  when_value =
      fold-SqlWhen _ _ _ _ _ _ _ _ (cond_step tables) scalar_step (source_step tables)
      (from_step tables) (item_step tables) (query_step tables) (when_step tables) term_step

  unfoldable pub term_value : SumTerm → ScalarMeaning
  term_value =
      fold-SumTerm _ _ _ _ _ _ _ _ (cond_step tables) scalar_step (source_step tables)
      (from_step tables) (item_step tables) (query_step tables) (when_step tables) term_step
