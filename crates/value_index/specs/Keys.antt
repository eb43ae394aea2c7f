-- What a value feeds the hash by which it is found.
use Rattle.std.specs.Prelude.{List, ℕ}
use Rattle.std.specs.Hash.{i128, str, u8}
use Rattle.prefsql_values.specs.declared.value.Value.{Value}
use Rattle.prefsql_values.specs.declared.value.Value.TheVariants.{Num, Str, Null}

-- what a key stands for
abbrev pub Keyed : Type 0
Keyed = Value

abbrev pub value_writes : Value → List (List ℕ)
value_writes (Num n) = i128 n
value_writes (Str text) = str text
value_writes Null = u8 0
