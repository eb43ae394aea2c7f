-- Which blocks have an answer over which tables: a matter of columns and places, and not of what
-- cells hold.
use Rattle.std.specs.Prelude.{ℕ, ◌<◌, ◌||◌, IsTrue, List, [], length, map, All, IfSome, ⊤}
use Rattle.std.specs.Prelude.{slice_index_or}
use Rattle.std.specs.List.{HoldsAt, flat_map}
use Rattle.prefsql_tables.specs.declared.place.ColumnPlace.{ColumnPlace}
use Rattle.prefsql_tables.specs.declared.schema.Column.{Column}
use Rattle.prefsql_tables.specs.Table.{Tables, IsTableAt}
use Rattle.base_prefs.specs.declared.kind.Kind.{Kind}
use Rattle.base_prefs.specs.Kind.{has_level, has_distance}
use Rattle.base_prefs.specs.Rankable.{IsRankable}
use Rattle.pref_terms.specs.declared.term.Leaf.{Leaf}
use Rattle.pref_terms.specs.Fits.{IsTrivialIfExplicit}
use Rattle.pref_terms.specs.Terms.{leaves_of}
use Rattle.conditions.specs.declared.condition.Quality.{Quality}
use Rattle.conditions.specs.declared.condition.Scalar.{Scalar}
use Rattle.conditions.specs.declared.condition.Scalar.TheVariants as scalar
use Rattle.conditions.specs.Meaning.{scalars_of}
use Rattle.query_meaning.specs.declared.block.Block.{Block}
use Rattle.query_meaning.specs.declared.block.FromTable.{FromTable}
use Rattle.query_meaning.specs.declared.block.Output.{Output}

-- the table at its position in the set has its name and its columns
abbrev pub IsTableOf : Tables → FromTable → Type 0
IsTableOf tables table = IsTableAt tables table.index table.name table.schema.columns

-- each FROM table is one of the set
abbrev pub FitsTables : Tables → Block → Type 0
FitsTables tables block = All (IsTableOf tables) block.from

-- the columns of the FROM table at a position
abbrev pub columns_from : List FromTable → ℕ → List Column
columns_from from table = slice_index_or (map (λ (t : FromTable). t.schema.columns) from) table []

-- there is a FROM table at the position, with such a column
pub record IsPlace (from : List FromTable) (place : ColumnPlace) : Type 0 where
  pub table : place.table < length from
  pub column : place.column < length (columns_from from place.table)

-- the place is of a column that the base preference can rank
pub record IsRankedPlace (from : List FromTable) (place : ColumnPlace) (kind : Kind) : Type 0 where
  pub there : IsPlace from place
  pub rankable : HoldsAt (λ (column : Column). IsRankable kind column.domain column.nullable)
      (columns_from from place.table) place.column

-- the same, and the base preference has a level or a distance
pub record IsQuality (from : List FromTable) (quality : Quality) : Type 0 where
  pub ranked : IsRankedPlace from quality.place quality.base
  pub has_quality : IsTrue (has_level quality.base || has_distance quality.base)

-- a literal has no place
abbrev pub IsScalar : List FromTable → Scalar → Type 0
IsScalar from (scalar.Column place) = IsPlace from place
IsScalar from (scalar.Literal value) = ⊤
IsScalar from (scalar.Quality quality) = IsQuality from quality

-- the leaf stands on such a column, and is trivial where it is EXPLICIT
pub record IsLeaf (from : List FromTable) (leaf : Leaf) : Type 0 where
  pub ranked : IsRankedPlace from leaf.place leaf.base
  pub trivial : IsTrivialIfExplicit leaf

-- its places are of its FROM tables, and each base preference stands on a column that it can rank
pub record HasPlaces (block : Block) : Type 0 where
  pub output : All (λ (output : Output). IsScalar block.from output.scalar) block.output
  pub filter : All (IsScalar block.from) (flat_map scalars_of block.filter)
  pub leaves : IfSome block.term (λ term. All (IsLeaf block.from) (leaves_of term))
  pub groups : All (IsPlace block.from) block.groups
  pub only : All (IsScalar block.from) (flat_map scalars_of block.only)
