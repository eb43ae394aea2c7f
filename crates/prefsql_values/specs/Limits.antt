-- Limits of the names and literals that tables and scripts hold. They are this project's own.
use Rattle.std.specs.Prelude.{ℕ, ◌≤◌, ◌<◌, ◌^◌, ℤ, pos, ◌≤ℤ◌, ◌<ℤ◌, unsigned_abs, List, length, ⊤}
use Rattle.std.specs.Str.{chars}
use Rattle.prefsql_values.specs.declared.value.Value.{Value}
use Rattle.prefsql_values.specs.declared.value.Value.TheVariants.{Num, Str, Null}

-- a text of 1 to 64 characters
pub record IsName (text : List ℕ) : Type 0 where
  pub not_empty : 1 ≤ length (chars text)
  pub short : length (chars text) ≤ 64

-- a number of at most eighteen digits
abbrev pub IsShort : ℤ → Type 0
IsShort n = unsigned_abs n < 10 ^ 18

-- the same, without a sign
abbrev pub IsUnsignedShort : ℤ → Type 0
IsUnsignedShort n = (pos 0 ≤ℤ n) × (n <ℤ pos (10 ^ 18))

-- what a script can write as a value: a number of at most eighteen digits, or a text
abbrev pub IsLiteralValue : Value → Type 0
IsLiteralValue (Num n) = IsShort n
IsLiteralValue (Str text) = ⊤
IsLiteralValue Null = ⊥
