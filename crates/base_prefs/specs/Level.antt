-- What the level of a value is, said of the sets and the paths themselves. The levels are this
-- project's own.
use Rattle.std.specs.Prelude.{◌≡◌, ℕ, ◌+◌, ◌≤◌, ◌⊎◌, List, length, All, Contains, IfSome, slice_get}
use Rattle.prefsql_values.specs.declared.value.Value.{Value}
use Rattle.base_prefs.specs.declared.edge.Edge.{Edge}
use Rattle.base_prefs.specs.declared.edge.ValueSet.{ValueSet}
use Rattle.base_prefs.specs.declared.kind.Kind.{Kind}
use Rattle.base_prefs.specs.declared.kind.Kind.TheVariants.{Pos, Neg, PosPos, PosNeg, Layered}
use Rattle.base_prefs.specs.declared.kind.Kind.TheVariants.{Explicit}
use Rattle.base_prefs.specs.Graph.{graph_values, IsLongestPathTo}

-- the value is in the set at the place
abbrev pub StandsAt : List ValueSet → ℕ → Value → Type 0
StandsAt sets place v = IfSome (slice_get sets place) (λ s. Contains s.values v)

-- the value is in none of the sets
abbrev pub IsOther : List ValueSet → Value → Type 0
IsOther sets v = All (λ s. ¬ Contains s.values v) sets

-- the number of its layer, from 1. OTHERS stands after the sets before it and before those after
-- it, and counts as one layer
abbrev pub IsLayer : List ValueSet → List ValueSet → Value → ℕ → Type 0
IsLayer before after v n =
    ((place : ℕ) × StandsAt before place v × (n ≡ place + 1))
    ⊎ ((IsOther before v × IsOther after v × (n ≡ length before + 1))
    ⊎ ((place : ℕ) × StandsAt after place v × (n ≡ length before + place + 2)))

-- 1 plus the number of edges of the longest path from the value up to one that no value of the
-- graph is above
abbrev pub IsLevelWithin : List Edge → Value → ℕ → Type 0
IsLevelWithin edges v n = (m : ℕ) × IsLongestPathTo edges v m × (n ≡ m + 1)

-- no value of the graph has a greater level, and one has this
abbrev pub IsGreatestLevel : List Edge → ℕ → Type 0
IsGreatestLevel edges n =
    ((v : Value) × Contains (graph_values edges) v × IsLevelWithin edges v n)
    × ((v : Value) (m : ℕ) → Contains (graph_values edges) v → IsLevelWithin edges v m → m ≤ n)

-- in the graph by the longest path, and outside it the greatest level of the graph plus 1
abbrev pub IsGraphLevel : List Edge → Value → ℕ → Type 0
IsGraphLevel edges v n =
    (Contains (graph_values edges) v × IsLevelWithin edges v n)
    ⊎ (¬ Contains (graph_values edges) v × ((m : ℕ) × IsGreatestLevel edges m × (n ≡ m + 1)))

-- the level of a value
abbrev pub IsLevel : Kind → Value → ℕ → Type 0
IsLevel (Pos s) v n = (Contains s.values v × (n ≡ 1)) ⊎ (¬ Contains s.values v × (n ≡ 2))
IsLevel (Neg s) v n = (Contains s.values v × (n ≡ 2)) ⊎ (¬ Contains s.values v × (n ≡ 1))
IsLevel (PosPos first second) v n =
    (Contains first.values v × (n ≡ 1)) ⊎ ((Contains second.values v × (n ≡ 2))
    ⊎ (¬ Contains first.values v × ¬ Contains second.values v × (n ≡ 3)))
IsLevel (PosNeg good bad) v n =
    (Contains good.values v × (n ≡ 1)) ⊎ ((Contains bad.values v × (n ≡ 3))
    ⊎ (¬ Contains good.values v × ¬ Contains bad.values v × (n ≡ 2)))
IsLevel (Layered before after) v n = IsLayer before after v n
IsLevel (Explicit g) v n = IsGraphLevel g.edges v n
IsLevel kind v n = ⊥
