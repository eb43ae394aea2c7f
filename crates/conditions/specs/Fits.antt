-- Which combinations of rows a condition can be asked of: a matter of tables, columns and numbers.
use Rattle.std.specs.Prelude.{ℕ, ◌||◌, IsTrue, List, All, ⊤, slice_index}
use Rattle.std.specs.List.{HoldsAt}
use Rattle.prefsql_tables.specs.declared.schema.Column.{Column}
use Rattle.prefsql_tables.specs.Table.{Tables, columns_of}
use Rattle.prefsql_tables.specs.Sight.{IsInSight}
use Rattle.base_prefs.specs.Kind.{has_level, has_distance}
use Rattle.base_prefs.specs.Rankable.{IsRankable}
use Rattle.conditions.specs.declared.condition.Quality.{Quality}
use Rattle.conditions.specs.declared.condition.Scalar.{Scalar}
use Rattle.conditions.specs.declared.condition.Scalar.TheVariants as scalar
use Rattle.conditions.specs.declared.condition.Cond.{Cond}
use Rattle.conditions.specs.Meaning.{scalars_of}

module _ (tables : Tables) (from : List ℕ) (first : ℕ) (rows : List ℕ) where
  -- the place is in the combination, its column can be ranked, and the base preference has a level
  -- or a distance
  pub record QualityFits (quality : Quality) : Type 0 where
    pub in_sight : IsInSight tables from first rows quality.place
    pub rankable : HoldsAt (λ (column : Column).
        IsRankable quality.base column.domain column.nullable)
        (columns_of tables (slice_index from quality.place.table)) quality.place.column
    pub has_quality : IsTrue (has_level quality.base || has_distance quality.base)

  abbrev pub ScalarFits : Scalar → Type 0
  ScalarFits (scalar.Column place) = IsInSight tables from first rows place
  ScalarFits (scalar.Literal value) = ⊤
  ScalarFits (scalar.Quality quality) = QualityFits quality

  -- every scalar fits
  pub record CondFits (cond : Cond) : Type 0 where
    pub each : All ScalarFits (scalars_of cond)
