-- Which columns a kind can rank: a matter of their domains, and not of what their cells hold.
use Rattle.std.specs.Prelude.{◌≡◌, Bool, true, false}
use Rattle.prefsql_values.specs.declared.value.Domain.{Domain}
use Rattle.prefsql_values.specs.declared.value.Domain.TheVariants.{Integer}
use Rattle.base_prefs.specs.declared.kind.Kind.{Kind}
use Rattle.base_prefs.specs.declared.kind.Kind.TheVariants.{Around, Between, Lowest, Highest}

-- AROUND, BETWEEN, LOWEST and HIGHEST rank numbers alone
abbrev pub ranks_numbers : Kind → Bool
ranks_numbers (Around center) = true
ranks_numbers (Between low up) = true
ranks_numbers Lowest = true
ranks_numbers Highest = true
ranks_numbers kind = false

-- a column that a kind can rank: it admits no NULL, and holds numbers where the kind ranks numbers
pub record IsRankable (kind : Kind) (domain : Domain) (nullable : Bool) : Type 0 where
  pub no_null : nullable ≡ false
  pub numbers : ranks_numbers kind ≡ true → domain ≡ Integer
