-- Which places are some given ones. This is this project's own.
use Rattle.std.specs.Prelude.{ℕ, Bool, List, nat_eq}
use Rattle.std.specs.List.{list_any}

-- whether the place is one of these
abbrev pub is_one_of : List ℕ → ℕ → Bool
is_one_of places place = list_any (nat_eq place) places
