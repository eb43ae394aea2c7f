-- The cells of a column as contracts see them.
use Rattle.std.specs.Prelude.{◌≡◌, List}
use Rattle.prefsql_values.specs.Limits.{IsShort}
use Rattle.prefsql_values.specs.declared.value.Domain.{Domain}
use Rattle.prefsql_values.specs.declared.value.Domain.TheVariants.{Integer, Chars}
use Rattle.prefsql_values.specs.declared.value.Value.{Value}
use Rattle.prefsql_values.specs.declared.value.Value.TheVariants.{Num, Str, Null}

-- the domain of the column, and a value for each row
pub record CellsData : Type 0 where
  pub domain : Domain
  pub values : List Value

-- a value that a column of the domain may hold, or NULL
abbrev pub Admits : Domain → Value → Type 0
Admits domain (Num n) = (domain ≡ Integer) × IsShort n
Admits domain (Str text) = domain ≡ Chars
Admits domain Null = Unit {0}
