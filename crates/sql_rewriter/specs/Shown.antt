-- What the columns and the qualities of a block are as SQL scalars: over the tables, or over a
-- candidate of the auxiliary query. The form is this project's own.
use Rattle.std.specs.Prelude.{◌<◌, ◌^◌, length, ⊤}
use Rattle.prefsql_values.specs.Limits.{IsLiteralValue}
use Rattle.prefsql_tables.specs.declared.place.ColumnPlace.{ColumnPlace}
use Rattle.pref_terms.specs.Terms.{leaves_of}
use Rattle.conditions.specs.declared.condition.Quality.{Quality}
use Rattle.conditions.specs.declared.condition.Scalar.{Scalar}
use Rattle.conditions.specs.declared.condition.Scalar.TheVariants as scalar
use Rattle.sql_tree.specs.declared.tree.SqlScalar.{SqlScalar}
use Rattle.sql_rewriter.specs.declared.shown.Shown.{Shown}
use Rattle.sql_rewriter.specs.declared.shown.Shown.TheVariants.{Tables, Candidate}
use Rattle.rewritten_query.specs.Columns.{number_among, rank_column}
use Rattle.rewritten_query.specs.Names.{column_up, of_tables}
use Rattle.rewritten_query.specs.Rewriting.{quality_of_tables}

abbrev pub column_shown : Shown → ColumnPlace → SqlScalar
column_shown Tables place = of_tables place
column_shown (Candidate used term) place = column_up 0 (number_among used.now place)

abbrev pub quality_shown : Shown → Quality → SqlScalar
quality_shown Tables quality = quality_of_tables quality
quality_shown (Candidate used term) quality =
    column_up 0 (rank_column used.now (leaves_of term.now) quality.leaf)

-- a literal is one that a script can write
abbrev pub HasLiteral : Scalar → Type 0
HasLiteral (scalar.Column place) = ⊤
HasLiteral (scalar.Literal value) = IsLiteralValue value
HasLiteral (scalar.Quality quality) = ⊤

-- few used columns and few leaves
abbrev pub IsSmall : Shown → Type 0
IsSmall Tables = ⊤
IsSmall (Candidate used term) = (length used.now < 2 ^ 16) × (length (leaves_of term.now) < 2 ^ 16)
