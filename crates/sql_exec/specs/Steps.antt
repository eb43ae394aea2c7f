-- A walk through the rows of FROM items.
use Rattle.std.specs.Prelude.{◌≡◌, ℕ, ◌+◌, ◌-◌, ◌<◌, ◌≤◌, Option, Some, None, List, [], ◌∷◌, ◌++◌, length, map}
use Rattle.std.specs.Borrow.{Bor}
use Rattle.prefsql_tables.specs.declared.table.AnswerRow.{AnswerRow}
use Rattle.sql_tree.specs.Meaning.{Scope}
use Rattle.sql_exec.specs.Seen.{rows_seen}
use Rattle.sql_exec.specs.Walks.{Step, Yield, found, pending, tries, yield_at}
use Rattle.sql_exec.specs.declared.walk.Walk.{Walk}

-- the rows that are chosen
abbrev pub row_of : Walk → Scope
row_of walk = rows_seen walk.rows.items

-- of each item that was come to, the rows that are left
abbrev pub left_of : Walk → List (List AnswerRow)
left_of walk = map (λ (rows : Bor (List AnswerRow)). rows.now) walk.left.items

-- what is to come is what comes of the front that was chosen, and what is to come behind it
abbrev pub Leads : Yield AnswerRow → Scope → List (List AnswerRow) → Scope → List (List AnswerRow) → Type 0
Leads f row left next_row next_left =
    (steps : List (Step AnswerRow)) → length left ≤ length steps
    → pending f steps [] row left
    ≡ yield_at f steps (length next_row - 1) next_row ++ pending f steps [] next_row next_left

-- the next row is chosen
pub record IsChosen (row : Scope) (left : List (List AnswerRow)) (next_row : Scope)
    (next_left : List (List AnswerRow)) : Type 0 where
  pub found : Leads found row left next_row next_left
  pub tries : Leads tries row left next_row next_left
  pub some : 0 < length next_row
  pub as_many : length next_row ≡ length next_left
  pub within : length next_left ≤ length left

-- nothing is to come
abbrev pub IsOver : Scope → List (List AnswerRow) → Type 0
IsOver row left = (steps : List (Step AnswerRow)) → pending found steps [] row left ≡ []

-- a walk over so many items
pub record IsWalk (count : ℕ) (walk : Walk) : Type 0 where
  pub near : length (left_of walk) ≤ length (row_of walk) + 1
  pub within : length (left_of walk) ≤ count

-- the scopes that are still to come, where the next one is this
abbrev pub to_come : List (Step AnswerRow) → Option Walk → List Scope
to_come steps None = []
to_come steps (Some walk) = row_of walk ∷ pending found steps [] (row_of walk) (left_of walk)
