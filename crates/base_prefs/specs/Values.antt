-- Values that a preference names.
use Rattle.std.specs.Prelude.{ℕ, ◌+◌, Bool, not, if◌then◌else◌, List, [], ◌∷◌, filter}
use Rattle.std.specs.List.{list_any}
use Rattle.prefsql_values.specs.declared.value.Value.{Value}
use Rattle.prefsql_values.specs.Value.{value_eq}

-- whether the value is one of them
abbrev pub is_in : List Value → Value → Bool
is_in values v = list_any (λ w. value_eq w v) values

-- the number of the first value that is the value, from 0, or how many values there are
abbrev pub place_of : List Value → Value → ℕ
place_of [] v = 0
place_of (w ∷ ws) v = if value_eq w v then 0 else place_of ws v + 1

-- each value once, at its first place
abbrev pub firsts : List Value → List Value
firsts [] = []
firsts (v ∷ vs) = v ∷ filter (λ w. not (value_eq v w)) (firsts vs)
