-- Combinations of rows: which there are, and how they are made, row by row.
use Rattle.std.specs.Prelude.{ℕ, ◌+◌, ◌<◌, ◌≤◌, ⊤, List, [], ◌∷◌, ◌++◌, length, map, slice_index}
use Rattle.prefsql_tables.specs.declared.place.Combo.{Combo}

-- one number below each limit
abbrev pub IsChoice : List ℕ → List ℕ → Type 0
IsChoice [] [] = ⊤
IsChoice [] (row ∷ rows) = ⊥
IsChoice (limit ∷ limits) [] = ⊥
IsChoice (limit ∷ limits) (row ∷ rows) = (row < limit) × IsChoice limits rows

-- one number below each of some limits that stand in a row, from position `first` on
pub record IsChoiceFrom (limits : List ℕ) (first : ℕ) (rows : List ℕ) : Type 0 where
  pub within : first + length rows ≤ length limits
  pub below : (k : ℕ) → k < length rows → slice_index rows k < slice_index limits (first + k)

-- what chooses below some limits completes the rows to a choice below all limits
abbrev pub IsCompleted : List ℕ → List ℕ → List ℕ → Type 0
IsCompleted all rows limits = (rest : List ℕ) → IsChoice limits rest → IsChoice all (rows ++ rest)

-- the combinations that begin with these rows
abbrev pub begun : List ℕ → List (List ℕ) → List Combo
begun rows = map (λ rest. record { rows = rows ++ rest })
