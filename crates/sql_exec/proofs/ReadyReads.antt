-- The meaning of each part of a query that was made ready, by the meaning of the parts below it.
use Rattle.std.proofs.Common.{◌≡◌, Bool, true, Some, None, List, [], ◌∷◌, map, cond, rules}
use Rattle.std.specs.List.{list_any}
use Rattle.std.proofs.lemmas.List.Folds.{list_all-map}
use Rattle.std.proofs.lemmas.Simd.{map-map}
use Rattle.prefsql_values.specs.declared.value.Value.{Value}
use Rattle.prefsql_values.specs.declared.value.CompareOp.{CompareOp}
use Rattle.prefsql_values.specs.Truth.{negated, negated_if, all_true, any_true, is_true}
use Rattle.prefsql_values.specs.Value.{comparison, between, one_of, is_null, truth_of}
use Rattle.prefsql_tables.specs.declared.table.AnswerRow.{AnswerRow}
use Rattle.sql_tree.specs.declared.tree.SqlPlace.{SqlPlace}
use Rattle.sql_tree.specs.Meaning.{Scopes, place_value, or_else, first_some}
use Rattle.sql_exec.specs.declared.ready.ReadyCond.{ReadyCond, And, Or, Not, Compare, Between, OneOf, IsNull, Exists}
use Rattle.sql_exec.specs.declared.ready.ReadyCond.TheFolds.{the_lemmas}
use Rattle.sql_exec.specs.declared.ready.ReadyScalar.{ReadyScalar, Column, Constant, Negative, Sum, Case}
use Rattle.sql_exec.specs.declared.ready.ReadyRows.{All, Equal}
use Rattle.sql_exec.specs.declared.ready.ReadySearch.{ReadySearch, out-ReadySearch}
use Rattle.sql_exec.specs.declared.ready.ReadyStep.{ReadyStep}
use Rattle.sql_exec.specs.declared.ready.ReadyWhen.{ReadyWhen}
use Rattle.sql_exec.specs.declared.row_groups.RowGroups.{RowGroups}
use Rattle.sql_exec.specs.Ready.{all_keep, kept, row_choice, step_at, steps_at, truth, value, when_value}
use Rattle.sql_exec.specs.RowKeys.{rows_found}
use Rattle.sql_exec.specs.Walks.{walk}
use Rattle.sql_exec.specs.Wrapping.{wrapped_sign, wrapped_sum}

pub truth-And : (parts : List ReadyCond) (scopes : Scopes) → truth (And parts) scopes ≡ all_true (map (λ part. truth part scopes) parts)
unfolding truth row_choice value kept step_at when_value
truth-And parts scopes = search (rules, the_lemmas, map-map)

pub truth-Or : (parts : List ReadyCond) (scopes : Scopes) → truth (Or parts) scopes ≡ any_true (map (λ part. truth part scopes) parts)
unfolding truth row_choice value kept step_at when_value
truth-Or parts scopes = search (rules, the_lemmas, map-map)

pub truth-Not : (part : ReadyCond) (scopes : Scopes) → truth (Not part) scopes ≡ negated (truth part scopes)
unfolding truth row_choice value kept step_at when_value
truth-Not part scopes = search (rules, the_lemmas)

pub truth-Compare : (op : CompareOp) (a b : ReadyScalar) (scopes : Scopes) → truth (Compare op a b) scopes ≡ comparison op (value a scopes) (value b scopes)
unfolding truth row_choice value kept step_at when_value
truth-Compare op a b scopes = search (rules, the_lemmas)

pub truth-Between : (negate : Bool) (a low high : ReadyScalar) (scopes : Scopes) → truth (Between negate a low high) scopes ≡ negated_if negate (between (value a scopes) (value low scopes) (value high scopes))
unfolding truth row_choice value kept step_at when_value
truth-Between negate a low high scopes = search (rules, the_lemmas)

pub truth-OneOf : (negate : Bool) (a : ReadyScalar) (list : List ReadyScalar) (scopes : Scopes) → truth (OneOf negate a list) scopes ≡ negated_if negate (one_of (value a scopes) (map (λ b. value b scopes) list))
unfolding truth row_choice value kept step_at when_value
truth-OneOf negate a list scopes = search (rules, the_lemmas, map-map)

pub truth-IsNull : (negate : Bool) (a : ReadyScalar) (scopes : Scopes) → truth (IsNull negate a) scopes ≡ negated_if negate (truth_of (is_null (value a scopes)))
unfolding truth row_choice value kept step_at when_value
truth-IsNull negate a scopes = search (rules, the_lemmas)

pub truth-Exists : (found : ReadySearch) (scopes : Scopes) → truth (Exists found) scopes ≡ truth_of (list_any (λ _. true) (kept found scopes))
unfolding truth row_choice value kept step_at when_value
truth-Exists found scopes = search (rules, the_lemmas)

pub value-Column : (place : SqlPlace) (scopes : Scopes) → value (Column place) scopes ≡ place_value scopes place
unfolding truth row_choice value kept step_at when_value
value-Column place scopes = search (rules, the_lemmas)

pub value-Constant : (v : Value) (scopes : Scopes) → value (Constant v) scopes ≡ v
unfolding truth row_choice value kept step_at when_value
value-Constant v scopes = search (rules, the_lemmas)

pub value-Negative : (scalar : ReadyScalar) (scopes : Scopes) → value (Negative scalar) scopes ≡ wrapped_sign true (value scalar scopes)
unfolding truth row_choice value kept step_at when_value
value-Negative scalar scopes = search (rules, the_lemmas)

pub value-Sum : (terms : List ReadyScalar) (scopes : Scopes) → value (Sum terms) scopes ≡ wrapped_sum (map (λ term. value term scopes) terms)
unfolding truth row_choice value kept step_at when_value
value-Sum terms scopes = search (rules, the_lemmas, map-map)

pub value-Case : (whens : List ReadyWhen) (last : ReadyScalar) (scopes : Scopes) → value (Case whens last) scopes ≡ or_else (first_some (map (λ w. when_value w scopes) whens)) (value last scopes)
unfolding truth row_choice value kept step_at when_value
value-Case whens last scopes = search (rules, the_lemmas, map-map)

pub when_value_is : (when : ReadyWhen) (scopes : Scopes) → when_value when scopes ≡ cond (is_true (truth when.cond scopes)) (Some (value when.value scopes)) None
unfolding truth row_choice value kept step_at when_value
when_value_is when scopes = search (rules, the_lemmas)

pub rows-All : (rows : List AnswerRow) (scopes : Scopes) → row_choice (All rows) scopes ≡ rows
unfolding truth row_choice value kept step_at when_value
rows-All rows scopes = search (rules, the_lemmas)

pub rows-Equal : (nulls : Bool) (scalar : ReadyScalar) (groups : RowGroups) (scopes : Scopes) → row_choice (Equal nulls scalar groups) scopes ≡ rows_found groups nulls (value scalar scopes)
unfolding truth row_choice value kept step_at when_value
rows-Equal nulls scalar groups scopes = search (rules, the_lemmas)

pub step_is : (step : ReadyStep) (scopes : Scopes) → step_at step scopes ≡ (λ front. row_choice step.rows (front ∷ scopes), λ front. all_keep step.tests (front ∷ scopes))
unfolding truth row_choice value kept step_at when_value
step_is step scopes = search (rules, the_lemmas, list_all-map)

pub kept_is : (found : ReadySearch) (scopes : Scopes) → kept found scopes ≡ cond (all_keep (out-ReadySearch found).before ([] ∷ scopes)) (walk (steps_at (out-ReadySearch found).steps scopes) []) []
unfolding truth row_choice value kept step_at when_value
kept_is found scopes = search (rules, the_lemmas, map-map, list_all-map)

pub ruleset ready_reads = (truth-And, truth-Or, truth-Not, truth-Compare, truth-Between, truth-OneOf, truth-IsNull, truth-Exists, value-Column, value-Constant, value-Negative, value-Sum, value-Case, when_value_is, rows-All, rows-Equal, step_is, kept_is)
