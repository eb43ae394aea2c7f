-- Conditions with each scalar and each TOP put into SQL; their shape is kept (ISO/IEC 9075:1992,
-- search condition).
use Rattle.std.specs.Prelude.{ℕ, if◌then◌else◌, Option, Some, None, List, [], ◌∷◌, map}
use Rattle.prefsql_values.specs.declared.value.CompareOp.TheVariants.{Eq}
use Rattle.base_prefs.specs.declared.kind.Kind.{Kind}
use Rattle.base_prefs.specs.Kind.{has_level}
use Rattle.conditions.specs.declared.condition.Cond.{Cond, fold-Cond}
use Rattle.conditions.specs.declared.condition.Cond.TheOpen.{Cond-F}
use Rattle.conditions.specs.declared.condition.Quality.{Quality}
use Rattle.conditions.specs.declared.condition.Scalar.{Scalar}
use Rattle.conditions.specs.declared.condition.Scalar.TheVariants as scalar
use Rattle.sql_tree.specs.declared.tree.SqlCond.{SqlCond, And, Or, Not, Compare, Between, OneOf}
use Rattle.sql_tree.specs.declared.tree.SqlCond.{IsNull}
use Rattle.sql_tree.specs.declared.tree.SqlScalar.{SqlScalar}
use Rattle.rewritten_query.specs.Leaves.{literal, number}
use Rattle.prefsql_tables.specs.declared.place.ColumnPlace.{ColumnPlace}

-- the best level or distance that there is
abbrev pub best_rank : Kind → ℕ
best_rank kind = if has_level kind then 1 else 0

module _ (column : ColumnPlace → SqlScalar) (quality : Quality → SqlScalar) where
  abbrev pub scalar_put : Scalar → SqlScalar
  scalar_put (scalar.Column place) = column place
  scalar_put (scalar.Literal value) = literal value
  scalar_put (scalar.Quality q) = quality q

  abbrev pub cond_step : Cond-F SqlCond → SqlCond
  cond_step (Cond-F.And parts) = And parts
  cond_step (Cond-F.Or parts) = Or parts
  cond_step (Cond-F.Not part) = Not part
  cond_step (Cond-F.Compare op a b) = Compare op (scalar_put a) (scalar_put b)
  cond_step (Cond-F.Between negate a low high) =
      Between negate (scalar_put a) (scalar_put low) (scalar_put high)
  cond_step (Cond-F.OneOf negate a list) = OneOf negate (scalar_put a) (map scalar_put list)
  cond_step (Cond-F.IsNull negate a) = IsNull negate (scalar_put a)
  cond_step (Cond-F.Top q) = Compare Eq (quality q) (number (best_rank q.base))

  -- a condition whose columns and qualities are those scalars
  unfoldable pub cond_put : Cond → SqlCond
  cond_put = fold-Cond SqlCond cond_step

-- nothing, the one condition, or an And of them
abbrev pub conjunction : List SqlCond → Option SqlCond
conjunction [] = None
conjunction (cond ∷ []) = Some cond
conjunction (cond ∷ other ∷ more) = Some (And (cond ∷ other ∷ more))
