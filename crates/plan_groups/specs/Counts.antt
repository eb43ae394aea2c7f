-- How many pairs of items are of one group. This is this project's own.
use Rattle.std.specs.Prelude.{ℕ, Bool, List, length, filter, sum_by}

-- for each of the first items, those of the second that are of its group
abbrev pub within_groups : {X : Type 0} → (X → X → Bool) → List X → List X → ℕ
within_groups same ins outs = sum_by (λ x. length (filter (λ y. same y x) outs)) ins
