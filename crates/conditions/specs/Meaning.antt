-- What scalars and conditions mean for a combination of rows (ISO/IEC 9075:1992, search condition;
-- LEVEL, DISTANCE and TOP follow Kießling and Köstler 2002).
use Rattle.std.specs.Prelude.{ℕ, ℤ, pos, Bool, false, nat_eq, Option, Some, None, List, [], ◌∷◌}
use Rattle.std.specs.Prelude.{map}
use Rattle.std.specs.List.{flat_map}
use Rattle.std.specs.Ordering.{int_eq}
use Rattle.prefsql_values.specs.declared.truth.Truth.{Truth}
use Rattle.prefsql_values.specs.declared.value.Value.{Value}
use Rattle.prefsql_values.specs.declared.value.Value.TheVariants.{Num, Null}
use Rattle.prefsql_values.specs.Truth.{all_true, any_true, negated, negated_if}
use Rattle.prefsql_values.specs.Value.{between, comparison, is_null, one_of, truth_of}
use Rattle.prefsql_tables.specs.Sight.{Sight}
use Rattle.base_prefs.specs.Kind.{level_of, distance_of}
use Rattle.conditions.specs.declared.condition.Scalar.{Scalar}
use Rattle.conditions.specs.declared.condition.Scalar.TheVariants as scalar
use Rattle.conditions.specs.declared.condition.Cond.{Cond, fold-Cond}
use Rattle.conditions.specs.declared.condition.Cond.TheOpen.{Cond-F}

-- a level or else a distance, as a value
abbrev pub quality_of : Option ℕ → Option ℤ → Value
quality_of (Some level) distance = Num (pos level)
quality_of None (Some distance) = Num distance
quality_of None None = Null

-- level 1 or distance 0
abbrev pub is_best : Option ℕ → Option ℤ → Bool
is_best (Some level) distance = nat_eq level 1
is_best None (Some distance) = int_eq distance (pos 0)
is_best None None = false

-- the value that a scalar has
abbrev pub scalar_value : Sight → Scalar → Value
scalar_value sight (scalar.Column place) = sight place
scalar_value sight (scalar.Literal value) = value
scalar_value sight (scalar.Quality quality) =
    quality_of (level_of quality.base (sight quality.place))
    (distance_of quality.base (sight quality.place))

-- one layer of a condition, with the truth of each part in its place
abbrev pub truth_step : Sight → Cond-F Truth → Truth
truth_step sight (Cond-F.And parts) = all_true parts
truth_step sight (Cond-F.Or parts) = any_true parts
truth_step sight (Cond-F.Not part) = negated part
truth_step sight (Cond-F.Compare op a b) =
    comparison op (scalar_value sight a) (scalar_value sight b)
truth_step sight (Cond-F.Between negate a low high) =
    negated_if negate (between (scalar_value sight a) (scalar_value sight low)
    (scalar_value sight high))
truth_step sight (Cond-F.OneOf negate a list) =
    negated_if negate (one_of (scalar_value sight a) (map (scalar_value sight) list))
truth_step sight (Cond-F.IsNull negate a) =
    negated_if negate (truth_of (is_null (scalar_value sight a)))
truth_step sight (Cond-F.Top quality) =
    truth_of (is_best (level_of quality.base (sight quality.place))
    (distance_of quality.base (sight quality.place)))

-- the truth of a condition
unfoldable pub truth : Sight → Cond → Truth
truth sight = fold-Cond Truth (truth_step sight)

-- the scalars of a condition, in the order in which they are written; TOP has its quality
abbrev pub scalars_step : Cond-F (List Scalar) → List Scalar
scalars_step (Cond-F.And parts) = flat_map (λ scalars. scalars) parts
scalars_step (Cond-F.Or parts) = flat_map (λ scalars. scalars) parts
scalars_step (Cond-F.Not part) = part
scalars_step (Cond-F.Compare op a b) = a ∷ b ∷ []
scalars_step (Cond-F.Between negate a low high) = a ∷ low ∷ high ∷ []
scalars_step (Cond-F.OneOf negate a list) = a ∷ list
scalars_step (Cond-F.IsNull negate a) = a ∷ []
scalars_step (Cond-F.Top quality) = scalar.Quality quality ∷ []

unfoldable pub scalars_of : Cond → List Scalar
scalars_of = fold-Cond (List Scalar) scalars_step
