-- The names of the tables are valid.
use Rattle.std.proofs.Common.{codes, lit≤}
use Rattle.std.specs.Str.{chars}
use Rattle.prefsql_values.specs.Limits.{IsName}

pub cars_is_name : IsName (codes "CARS")
unfolding chars
cars_is_name = record { not_empty = lit≤ tt; short = lit≤ tt }

pub dealers_is_name : IsName (codes "DEALERS")
unfolding chars
dealers_is_name = record { not_empty = lit≤ tt; short = lit≤ tt }
