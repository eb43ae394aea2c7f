-- Where names stand in a list of names.
use Rattle.std.specs.Prelude.{◌≡◌, ℕ, true, false, nat_lt, Option, Some, None, List, option_map}
use Rattle.std.specs.Prelude.{position, count_by}
use Rattle.std.specs.HashMap.{HashMap, get_by}
use Rattle.std.specs.Str.{bytes_eq}
use denote.Ref.{Bor}
use Rattle.query_typing.specs.declared.names.NamePlace.{NamePlace}

abbrev pub place_by : Option ℕ → ℕ → Option NamePlace
place_by first count =
    option_map (λ place. record { first = place; is_single = nat_lt count 2 }) first

-- the first place of the name, and whether it is the only one
abbrev pub name_place : List ℕ → List (List ℕ) → Option NamePlace
name_place name names = place_by (position (bytes_eq name) names) (count_by (bytes_eq name) names)

-- the same, with a place behind
abbrev pub place_more : Option NamePlace → ℕ → NamePlace
place_more None place = record { first = place; is_single = true }
place_more (Some known) place = record { first = known.first; is_single = false }

-- the index tells of each name where it stands
abbrev pub IsIndexOf : {S : Type 0} → List (List ℕ) → HashMap (Bor (List ℕ)) NamePlace S → Type 0
IsIndexOf names index =
    (name : List ℕ) → get_by (λ k. bytes_eq name k.now) index ≡ name_place name names
