-- What stands in the order of its places, as the parts of a tree that is well made do.
use Rattle.std.specs.Prelude.{ℕ, ◌≤◌, Bool, false, nat_lt, Option, Some, None, List, [], ◌∷◌, All}
use Rattle.std.specs.Prelude.{map, ⊤}
use Rattle.std.specs.List.{flat_map}
use Rattle.prefsql_lexer.specs.declared.fault.Spot.{Spot}
use Rattle.query_tree.specs.Places.{base_places}
use Rattle.query_tree.specs.declared.name.LiteralTree.{LiteralTree}
use Rattle.query_tree.specs.declared.preference.BaseTree.{BaseTree}
use Rattle.query_tree.specs.declared.preference.SetTree.{SetTree}
use Rattle.query_tree.specs.declared.query.FromTree.{FromTree}

-- the first place is not before this one, and no place is before the one in front of it
abbrev pub Ascends : ℕ → List ℕ → Type 0
Ascends low [] = ⊤
Ascends low (place ∷ places) = (low ≤ place) × Ascends place places

-- there is a fault, and it stands before the place
abbrev pub stands_before : Option Spot → ℕ → Bool
stands_before None at = false
stands_before (Some spot) at = nat_lt spot.at at

-- the places of FROM items and of their names
abbrev pub from_places : List FromTree → List ℕ
from_places = flat_map (λ (item : FromTree). item.at ∷ item.name_at ∷ [])

abbrev pub literal_places : List LiteralTree → List ℕ
literal_places = map (λ (literal : LiteralTree). literal.at)

-- the literals of each set stand in order
abbrev pub AreInOrder : List SetTree → Type 0
AreInOrder = All (λ (set : SetTree). Ascends 0 (literal_places set.literals))

-- what a base preference holds stands in order
abbrev pub IsInOrder : BaseTree → Type 0
IsInOrder base = Ascends 0 (base_places base)
