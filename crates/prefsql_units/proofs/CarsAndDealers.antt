-- The name and the columns of the tests' table are valid.
use Rattle.std.proofs.Common.{zero, suc, true, false, List, [], ◌∷◌, All, arith, codes, lit≤}
use Rattle.std.specs.Str.{chars}
use Rattle.std.proofs.lemmas.Bool.{false≢true}
use Rattle.std.proofs.lemmas.Slice.Eq.{bytes_eq-Decides}
use Rattle.prefsql_values.specs.declared.value.Domain.TheVariants.{Integer, Chars}
use Rattle.prefsql_tables.specs.declared.schema.Column.{Column}
use Rattle.prefsql_tables.specs.Names.{names_of}
use Rattle.prefsql_tables.specs.Valid.{IsSchema, AllDiffer}
use Rattle.prefsql_values.specs.Limits.{IsName}

pub cars_is_name : IsName (codes "CARS")
unfolding chars
cars_is_name = record { not_empty = lit≤ tt; short = lit≤ tt }

id_is_name : IsName (codes "ID")
unfolding chars
id_is_name = record { not_empty = lit≤ tt; short = lit≤ tt }

dealer_is_name : IsName (codes "DEALER")
unfolding chars
dealer_is_name = record { not_empty = lit≤ tt; short = lit≤ tt }

abbrev pub example_columns : List Column
example_columns = record { name = codes "ID"; domain = Integer; nullable = false } ∷ record { name = codes "DEALER"; domain = Chars; nullable = true } ∷ []

names : All IsName (names_of example_columns)
names zero d small = id_is_name
names (suc zero) d small = dealer_is_name
names (suc (suc k)) d small = absurd (omega arith)

differ : AllDiffer (names_of example_columns)
differ zero zero d before small = absurd (omega arith)
differ zero (suc zero) d before small = λ same. false≢true ((bytes_eq-Decides (codes "ID") (codes "DEALER")).1 same)
differ zero (suc (suc j)) d before small = absurd (omega arith)
differ (suc i) j d before small = absurd (omega arith)

pub example_schema : IsSchema example_columns
example_schema = record { not_empty = lit≤ tt; few = lit≤ tt; names = names; differ = differ }
