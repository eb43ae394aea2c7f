-- Of how many of the first FROM items of a query a part of it speaks.
use Rattle.std.specs.Prelude.{◌≡◌, ℕ, ◌<◌, ◌^◌}
use Rattle.sql_tree.specs.Meaning.{Scopes, place_value}
use Rattle.sql_tree.specs.declared.tree.SqlPlace.{SqlPlace}

-- the same is seen in each column, but maybe not in those of the items behind so many of the first
-- ones, of the query that stands so many queries further out
abbrev pub AreAlike : ℕ → ℕ → Scopes → Scopes → Type 0
AreAlike depth reach scopes others =
    (place : SqlPlace) → place.up < 2 ^ 32 → (place.up ≡ depth → place.item < reach)
    → place_value scopes place ≡ place_value others place

-- what a part means does not hang on the rows of the items behind these
abbrev pub SpeaksOf : {V : Type 0} → ℕ → ℕ → (Scopes → V) → Type 0
SpeaksOf depth reach meaning =
    (scopes others : Scopes) → AreAlike depth reach scopes others
    → meaning scopes ≡ meaning others
