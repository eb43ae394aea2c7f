-- What is owed and not kept, by its code and place, and the first of it; domains and bounds where a
-- name may have no single meaning. The codes, their places and their order are this project's own.
use Rattle.std.specs.Prelude.{ℕ, ◌^◌, Bool, true, false, ◌&&◌, ◌||◌, if◌then◌else◌, ◌==◌, nat_lt}
use Rattle.std.specs.Prelude.{List, [], ◌∷◌, Option, Some, None}
use Rattle.prefsql_lexer.specs.declared.fault.Spot.{Spot}
use Rattle.prefsql_values.specs.declared.value.Domain.{Domain}
use Rattle.prefsql_values.specs.declared.value.Domain.TheVariants.{Integer, Chars as CharsDomain}

-- ---- faults

-- A false obligation, and where it stands among those of its clause. That of an inner query stands
-- at the query's SELECT.
pub record Fault : Type 0 where
  pub at : ℕ
  pub spot : Spot

abbrev pub fault : ℕ → ℕ → Fault
fault code at = record { at = at; spot = record { code = code; at = at } }

-- the fault, where the test says so
abbrev pub fault_if : Bool → ℕ → ℕ → List Fault
fault_if true code at = fault code at ∷ []
fault_if false code at = []

-- by place, then by code
abbrev pub is_before : Fault → Fault → Bool
is_before f g = nat_lt f.at g.at || (f.at == g.at && nat_lt f.spot.code g.spot.code)

abbrev pub first_of : Fault → List Fault → Fault
first_of f [] = f
first_of f (g ∷ more) = first_of (if is_before g f then g else f) more

-- the first fault of a clause
abbrev pub first_spot : List Fault → Option Spot
first_spot [] = None
first_spot (f ∷ more) = Some (first_of f more).spot

-- the first fault of two clauses
abbrev pub either_spot : Option Spot → Option Spot → Option Spot
either_spot (Some spot) later = Some spot
either_spot None later = later

-- the first fault of an inner query that begins at this place
abbrev pub inner_faults : ℕ → Option Spot → List Fault
inner_faults at None = []
inner_faults at (Some spot) = record { at = at; spot = spot } ∷ []

-- ---- domains and bounds

-- two domains that are known and differ
abbrev pub differ : Option Domain → Option Domain → Bool
differ (Some Integer) (Some CharsDomain) = true
differ (Some CharsDomain) (Some Integer) = true
differ _ _ = false

abbrev pub is_text : Option Domain → Bool
is_text (Some CharsDomain) = true
is_text _ = false

-- the greatest bound that an expression may have
abbrev pub max_bound : ℕ
max_bound = 10 ^ 36

abbrev pub both_bounds : (ℕ → ℕ → ℕ) → Option ℕ → Option ℕ → Option ℕ
both_bounds f (Some m) (Some n) = Some (f m n)
both_bounds f _ _ = None
