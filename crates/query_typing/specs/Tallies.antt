-- How many leaves have a quality on a column, as far as it matters: none, one, or several.
use Rattle.std.specs.Prelude.{◌≡◌, ℕ, ◌&&◌, Bool, nat_eq, if◌then◌else◌, Option, Some, None, List}
use Rattle.std.specs.HashMap.{HashMap, get}
use Rattle.prefsql_lexer.specs.declared.fault.Spot.{Spot}
use Rattle.prefsql_tables.specs.declared.place.ColumnPlace.{ColumnPlace}
use Rattle.query_typing.specs.Leaves.{wanted_count}
use Rattle.query_typing.specs.declared.quality.LeafSite.{LeafSite}
use Rattle.query_typing.specs.declared.quality.Wanted.{Wanted}
use Rattle.query_typing.specs.declared.quality.Wanted.TheVariants.{Level, Distance, Either}
use Rattle.query_typing.specs.declared.tally.Tally.{Tally}
use Rattle.query_typing.specs.declared.tally.Tally.TheVariants.{Nothing, One, Several}
use Rattle.query_typing.specs.declared.tally.QualityTally.{QualityTally}

abbrev pub tally : ℕ → Tally
tally count = if nat_eq count 0 then Nothing else if nat_eq count 1 then One else Several

-- one more
abbrev pub tally_more : Tally → Tally
tally_more Nothing = One
tally_more One = Several
tally_more Several = Several

abbrev pub tally_with : Bool → Tally → Tally
tally_with more known = if more then tally_more known else known

abbrev pub tally_of : Wanted → QualityTally → Tally
tally_of Level known = known.level
tally_of Distance known = known.distance
tally_of Either known = known.either

abbrev pub tally_in : Wanted → Option QualityTally → Tally
tally_in wanted None = Nothing
tally_in wanted (Some known) = tally_of wanted known

abbrev pub same_key : ℕ × ℕ → ℕ × ℕ → Bool
same_key a b = nat_eq a.0 b.0 && nat_eq a.1 b.1

-- the map tells of each column how many of the leaves have a quality on it
abbrev pub AreTallied : {S : Type 0} → List LeafSite → HashMap (ℕ × ℕ) QualityTally S → Type 0
AreTallied leaves tallies =
    (wanted : Wanted) (place : ColumnPlace)
    → tally_in wanted (get same_key tallies (place.table, place.column)) ≡ tally
    (wanted_count wanted place leaves)

-- what a column owes of which so many leaves have the quality that is asked for
abbrev pub tally_fault : Tally → ℕ → Option Spot
tally_fault Nothing at = Some (record { code = 312; at = at })
tally_fault One at = None
tally_fault Several at = Some (record { code = 313; at = at })
