-- What the key of a group of rows stands for.
use Rattle.prefsql_values.specs.declared.value.Value.{Value}

abbrev pub Keyed : Type 0
Keyed = Value
