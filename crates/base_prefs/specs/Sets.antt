-- Sets of values, as a preference is given them and as it keeps them.
use Rattle.std.specs.Prelude.{◌≢◌, ℕ, ◌+◌, ◌<◌, ◌≤◌, ◌⊎◌, if◌then◌else◌, List, [], ◌∷◌, ◌++◌}
use Rattle.std.specs.Prelude.{length, All, AllPairs, Any, Contains}
use Rattle.prefsql_values.specs.declared.value.Value.{Value}
use Rattle.base_prefs.specs.declared.edge.ValueSet.{ValueSet}
use Rattle.base_prefs.specs.Values.{is_in, firsts}
use Rattle.prefsql_values.specs.Limits.{IsLiteralValue}

-- the set with each of its values once, at its first place
abbrev pub once : ValueSet → ValueSet
once s = record { values = firsts s.values }

-- the values of all the sets, as they are written
abbrev pub written : List ValueSet → List Value
written [] = []
written (s ∷ sets) = s.values ++ written sets

-- the two sets share a value
abbrev pub Share : ValueSet → ValueSet → Type 0
Share s t = (v : Value) × Contains s.values v × Contains t.values v

-- a set and a later one share a value
abbrev pub HasOverlap : List ValueSet → Type 0
HasOverlap [] = ⊥
HasOverlap (s ∷ later) = Any (Share s) later ⊎ HasOverlap later

-- a set of some values that a script can write
pub record IsGivenSet (s : ValueSet) : Type 0 where
  pub some : 0 < length s.values
  pub literal : All IsLiteralValue s.values

-- the same with each value once: any two of its values differ
pub record IsKeptSet (s : ValueSet) : Type 0 where
  pub given : IsGivenSet s
  pub different : AllPairs ◌≢◌ s.values

-- what a preference keeps of its sets: together they have at most 256 values, and no two share one
pub record AreKeptSets (sets : List ValueSet) : Type 0 where
  pub each : All IsKeptSet sets
  pub few : length (written sets) ≤ 256
  pub apart : HasOverlap sets → ⊥

-- the number of the first set that has the value, from 0, or how many sets there are
abbrev pub set_of : List ValueSet → Value → ℕ
set_of [] v = 0
set_of (s ∷ sets) v = if is_in s.values v then 0 else set_of sets v + 1
