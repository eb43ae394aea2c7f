-- The name and the column of the tests' table are valid.
use Rattle.std.proofs.Common.{zero, suc, true, List, [], ◌∷◌, All, arith, codes, lit≤}
use Rattle.std.specs.Str.{chars}
use Rattle.prefsql_values.specs.Limits.{IsName}
use Rattle.prefsql_values.specs.declared.value.Domain.TheVariants.{Integer}
use Rattle.prefsql_tables.specs.declared.schema.Column.{Column}
use Rattle.prefsql_tables.specs.Names.{names_of}
use Rattle.prefsql_tables.specs.Valid.{IsSchema, AllDiffer}

pub cars_is_name : IsName (codes "CARS")
unfolding chars
cars_is_name = record { not_empty = lit≤ tt; short = lit≤ tt }

id_is_name : IsName (codes "ID")
unfolding chars
id_is_name = record { not_empty = lit≤ tt; short = lit≤ tt }

abbrev pub id_column : List Column
id_column = record { name = codes "ID"; domain = Integer; nullable = true } ∷ []

names : All IsName (names_of id_column)
names zero d small = id_is_name
names (suc k) d small = absurd (omega arith)

differ : AllDiffer (names_of id_column)
differ zero zero d before small = absurd (omega arith)
differ zero (suc j) d before small = absurd (omega arith)
differ (suc i) j d before small = absurd (omega arith)

pub id_schema : IsSchema id_column
id_schema = record { not_empty = lit≤ tt; few = lit≤ tt; names = names; differ = differ }
