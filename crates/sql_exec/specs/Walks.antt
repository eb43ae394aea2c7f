-- Walks: one element after the other is put behind a front, and a front is left at once where its
-- test fails.
use Rattle.std.specs.Prelude.{Bool, false, if◌then◌else◌, List, [], ◌∷◌, ◌++◌, drop}
use Rattle.std.specs.Prelude.{ℕ, suc, slice_index_or}
use Rattle.std.specs.List.{flat_map}

-- the elements that may be put behind a front, and the test of the longer front
abbrev pub Step : Type 0 → Type 0
Step X = (List X → List X) × (List X → Bool)

abbrev pub no_step : {X : Type 0} → Step X
no_step = (λ front. [], λ front. false)

-- the fronts that pass each test, with an element of each step
abbrev pub walk : {X : Type 0} → List (Step X) → List X → List (List X)
walk [] front = front ∷ []
walk (step ∷ more) front =
    flat_map
    (λ x. if step.1 (front ++ x ∷ []) then walk more (front ++ x ∷ []) else [])
    (step.0 front)

-- each front that is tried on the way
abbrev pub tried : {X : Type 0} → List (Step X) → List X → List (List X)
tried [] front = []
tried (step ∷ more) front =
    flat_map (λ x. (front ++ x ∷ []) ∷ tried more (front ++ x ∷ [])) (step.0 front)

-- what comes of a front that a step made
abbrev pub Yield : Type 0 → Type 0
Yield X = Step X → List (Step X) → List X → List (List X)

abbrev pub found : {X : Type 0} → Yield X
found step more front = if step.1 front then walk more front else []

abbrev pub tries : {X : Type 0} → Yield X
tries step more front = front ∷ tried more front

-- what is still to come of a walk that chose these elements, where of each step that it came to
-- these elements are left
abbrev pub pending
    : {X : Type 0} → Yield X → List (Step X) → List X → List X → List (List X) → List (List X)
pending f [] front row left = []
pending f (step ∷ more) front row [] = []
pending f (step ∷ more) front [] (xs ∷ left) = flat_map (λ x. f step more (front ++ x ∷ [])) xs
pending f (step ∷ more) front (y ∷ row) (xs ∷ left) =
    pending f more (front ++ y ∷ []) row left
    ++ flat_map (λ x. f step more (front ++ x ∷ [])) xs

-- what comes of a front whose last element was chosen at the step with that number, from 0
abbrev pub yield_at : {X : Type 0} → Yield X → List (Step X) → ℕ → List X → List (List X)
yield_at f steps k front = f (slice_index_or steps k no_step) (drop (suc k) steps) front
