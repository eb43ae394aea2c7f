-- What the parts of a query mean once each FROM item is the rows that it has. Which rows a part
-- sees is as for SQL queries: those of the query that it stands in, and of the queries round it.
-- Sums and signs are taken in the range of a 128-bit number.
use Rattle.std.specs.Prelude.{Bool, true, if◌then◌else◌, Option, Some, None, List, [], ◌∷◌, map}
use Rattle.std.specs.List.{list_all, list_any}
use Rattle.prefsql_values.specs.declared.truth.Truth.{Truth}
use Rattle.prefsql_values.specs.declared.value.Value.{Value}
use Rattle.prefsql_values.specs.Truth.{negated, negated_if, all_true, any_true, is_true}
use Rattle.prefsql_values.specs.Value.{comparison, between, one_of, truth_of, is_null}
use Rattle.prefsql_tables.specs.declared.table.AnswerRow.{AnswerRow}
use Rattle.sql_tree.specs.Meaning.{Scope, Scopes, place_value, or_else, first_some}
use Rattle.sql_exec.specs.declared.ready.ReadyCond.{ReadyCond, fold-ReadyCond}
use Rattle.sql_exec.specs.declared.ready.ReadyCond.TheOpen.{ReadyCond-F, ReadyRows-F, ReadyScalar-F}
use Rattle.sql_exec.specs.declared.ready.ReadyCond.TheOpen.{ReadySearch-F, ReadyStep-F, ReadyWhen-F}
use Rattle.sql_exec.specs.declared.ready.ReadyRows.{ReadyRows, fold-ReadyRows}
use Rattle.sql_exec.specs.declared.ready.ReadyScalar.{ReadyScalar, fold-ReadyScalar}
use Rattle.sql_exec.specs.declared.ready.ReadySearch.{ReadySearch, fold-ReadySearch}
use Rattle.sql_exec.specs.declared.ready.ReadyStep.{ReadyStep, fold-ReadyStep}
use Rattle.sql_exec.specs.declared.ready.ReadyWhen.{ReadyWhen, fold-ReadyWhen}
use Rattle.sql_exec.specs.RowKeys.{rows_found}
use Rattle.sql_exec.specs.Walks.{Step, walk}
use Rattle.sql_exec.specs.Wrapping.{wrapped_sign, wrapped_sum}

-- the rows of an item mean those that may be chosen, a step the walk's step, and a search the scopes
-- that it keeps
abbrev pub Level
    : (Type 0 → Type 0 → Type 0 → Type 0 → Type 0 → Type 0 → Type 0) → Type 0
Level F =
    F (Scopes → Truth) (Scopes → List AnswerRow) (Scopes → Value) (Scopes → List Scope)
    (Scopes → Step AnswerRow) (Scopes → Option Value)

abbrev pub cond_step : Level ReadyCond-F → Scopes → Truth
cond_step (ReadyCond-F.And parts) scopes = all_true (map (λ part. part scopes) parts)
cond_step (ReadyCond-F.Or parts) scopes = any_true (map (λ part. part scopes) parts)
cond_step (ReadyCond-F.Not part) scopes = negated (part scopes)
cond_step (ReadyCond-F.Compare op a b) scopes = comparison op (a scopes) (b scopes)
cond_step (ReadyCond-F.Between negate a low high) scopes =
    negated_if negate (between (a scopes) (low scopes) (high scopes))
cond_step (ReadyCond-F.OneOf negate a list) scopes =
    negated_if negate (one_of (a scopes) (map (λ b. b scopes) list))
cond_step (ReadyCond-F.IsNull negate a) scopes = negated_if negate (truth_of (is_null (a scopes)))
cond_step (ReadyCond-F.Exists search) scopes = truth_of (list_any (λ _. true) (search scopes))

abbrev pub scalar_step : Level ReadyScalar-F → Scopes → Value
scalar_step (ReadyScalar-F.Column place) scopes = place_value scopes place
scalar_step (ReadyScalar-F.Constant value) scopes = value
scalar_step (ReadyScalar-F.Negative scalar) scopes = wrapped_sign true (scalar scopes)
scalar_step (ReadyScalar-F.Sum terms) scopes = wrapped_sum (map (λ term. term scopes) terms)
scalar_step (ReadyScalar-F.Case whens last) scopes =
    or_else (first_some (map (λ w. w scopes) whens)) (last scopes)

abbrev pub when_step : Level ReadyWhen-F → Scopes → Option Value
when_step w scopes = if is_true (w.cond scopes) then Some (w.value scopes) else None

abbrev pub rows_step : Level ReadyRows-F → Scopes → List AnswerRow
rows_step (ReadyRows-F.All rows) scopes = rows
rows_step (ReadyRows-F.Equal nulls scalar groups) scopes = rows_found groups nulls (scalar scopes)

-- whether each of the tests is True
abbrev pub all_pass : List (Scopes → Truth) → Scopes → Bool
all_pass tests scopes = list_all (λ test. is_true (test scopes)) tests

abbrev pub step_step : Level ReadyStep-F → Scopes → Step AnswerRow
step_step step scopes =
    (λ front. step.rows (front ∷ scopes), λ front. all_pass step.tests (front ∷ scopes))

abbrev pub search_step : Level ReadySearch-F → Scopes → List Scope
search_step search scopes =
    if all_pass search.before ([] ∷ scopes)
    then walk (map (λ step. step scopes) search.steps) [] else []

unfoldable pub truth : ReadyCond → Scopes → Truth
truth = fold-ReadyCond _ _ _ _ _ _ cond_step rows_step scalar_step search_step step_step when_step

unfoldable pub row_choice : ReadyRows → Scopes → List AnswerRow
row_choice = fold-ReadyRows _ _ _ _ _ _ cond_step rows_step scalar_step search_step step_step when_step

unfoldable pub value : ReadyScalar → Scopes → Value
value = fold-ReadyScalar _ _ _ _ _ _ cond_step rows_step scalar_step search_step step_step when_step

unfoldable pub kept : ReadySearch → Scopes → List Scope
kept = fold-ReadySearch _ _ _ _ _ _ cond_step rows_step scalar_step search_step step_step when_step

unfoldable pub step_at : ReadyStep → Scopes → Step AnswerRow
step_at = fold-ReadyStep _ _ _ _ _ _ cond_step rows_step scalar_step search_step step_step when_step

unfoldable pub when_value : ReadyWhen → Scopes → Option Value
when_value = fold-ReadyWhen _ _ _ _ _ _ cond_step rows_step scalar_step search_step step_step when_step

-- what items show of the rows that they see
abbrev pub row_of : List ReadyScalar → Scopes → AnswerRow
row_of items scopes = record { cells = map (λ item. value item scopes) items }

-- whether a condition keeps the rows that it sees
abbrev pub keeps : ReadyCond → Scopes → Bool
keeps cond scopes = is_true (truth cond scopes)

-- whether each of the conditions does
abbrev pub all_keep : List ReadyCond → Scopes → Bool
all_keep conds scopes = list_all (λ cond. keeps cond scopes) conds

abbrev pub steps_at : List ReadyStep → Scopes → List (Step AnswerRow)
steps_at steps scopes = map (λ step. step_at step scopes) steps
