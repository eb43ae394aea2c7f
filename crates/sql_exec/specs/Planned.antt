-- What a plan of the steps keeps: which scope passes all that is judged at its items.
use Rattle.std.specs.Prelude.{◌≡◌, ℕ, Bool, true, ◌&&◌, if◌then◌else◌, Option, Some, None, List, [], ◌∷◌, ◌++◌, length}
use Rattle.std.specs.Prelude.{slice_index_or}
use Rattle.std.specs.List.{flat_map}
use Rattle.prefsql_tables.specs.declared.table.AnswerRow.{AnswerRow}
use Rattle.prefsql_tables.specs.Table.{cell_in}
use Rattle.sql_tree.specs.Meaning.{Scope, Scopes}
use Rattle.sql_exec.specs.declared.ready.ReadyStep.{ReadyStep}
use Rattle.sql_exec.specs.declared.steps.ItemKey.{ItemKey}
use Rattle.sql_exec.specs.declared.steps.ItemPlan.{ItemPlan}
use Rattle.sql_exec.specs.declared.steps.StepPlan.{StepPlan}
use Rattle.sql_exec.specs.Ready.{all_keep, step_at, value}
use Rattle.sql_exec.specs.RowKeys.{is_found}

-- whether a row behind a front is found by the key of its item
abbrev pub is_found_by : Option ItemKey → Scope → AnswerRow → Scopes → Bool
is_found_by None front row scopes = true
is_found_by (Some key) front row scopes =
    is_found key.nulls (cell_in row key.column) (value key.scalar (front ∷ scopes))

abbrev pub item_keeps : Scopes → ItemPlan → Scope → AnswerRow → Bool
item_keeps scopes item front row =
    is_found_by item.key front row scopes && all_keep item.tests ((front ++ row ∷ []) ∷ scopes)

-- whether rows behind a front pass what is judged at their items
abbrev pub items_keep : List ItemPlan → Scope → Scope → Scopes → Bool
items_keep [] front rows scopes = true
items_keep (item ∷ items) front [] scopes = true
items_keep (item ∷ items) front (row ∷ rows) scopes =
    item_keeps scopes item front row && items_keep items (front ++ row ∷ []) rows scopes

abbrev pub plan_keeps : StepPlan → Scope → Scopes → Bool
plan_keeps plan scope scopes =
    all_keep plan.before ([] ∷ scopes) && items_keep plan.items.items [] scope scopes

abbrev pub item_count : StepPlan → ℕ
item_count plan = length plan.items.items

-- the rows of the item are not found by a key
abbrev pub IsFree : StepPlan → ℕ → Type 0
IsFree plan item = (d : ItemPlan) → (slice_index_or plan.items.items item d).key ≡ None

-- the new plan judges this too, of a scope with a row of each item
abbrev pub JudgesToo : (Scope → Scopes → Bool) → StepPlan → StepPlan → Type 0
JudgesToo test old new =
    (scope : Scope) → (scopes : Scopes) → length scope ≡ item_count old
    → plan_keeps new scope scopes ≡ (plan_keeps old scope scopes && test scope scopes)

-- the step goes through those of the rows that the plan of the item keeps
abbrev pub IsMade : List AnswerRow → ItemPlan → ReadyStep → Type 0
IsMade rows item step =
    (front : Scope) → (scopes : Scopes) → (behind : AnswerRow → List Scope)
    → flat_map
    (λ row. if (step_at step scopes).1 (front ++ row ∷ []) then behind row else [])
    ((step_at step scopes).0 front)
    ≡ flat_map (λ row. if item_keeps scopes item front row then behind row else []) rows
