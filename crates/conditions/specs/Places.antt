-- The columns that a condition reads. This is this project's own.
use Rattle.std.specs.Prelude.{List, [], ◌∷◌}
use Rattle.std.specs.List.{flat_map}
use Rattle.prefsql_tables.specs.declared.place.ColumnPlace.{ColumnPlace}
use Rattle.conditions.specs.declared.condition.Cond.{Cond}
use Rattle.conditions.specs.declared.condition.Scalar.{Scalar}
use Rattle.conditions.specs.declared.condition.Scalar.TheVariants as scalar
use Rattle.conditions.specs.Meaning.{scalars_of}

-- the columns that a scalar reads; a quality reads the column of its leaf
abbrev pub scalar_places : Scalar → List ColumnPlace
scalar_places (scalar.Column place) = place ∷ []
scalar_places (scalar.Literal value) = []
scalar_places (scalar.Quality quality) = quality.place ∷ []

-- the columns that a condition reads, in the order in which they are written
abbrev pub read_by : Cond → List ColumnPlace
read_by cond = flat_map scalar_places (scalars_of cond)
