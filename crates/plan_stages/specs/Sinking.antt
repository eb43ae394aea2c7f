-- Which conditions of BUT ONLY may be asked before the preference: those that hold of what is
-- better than a row of which they hold. This is this project's own.
use Rattle.std.specs.Prelude.{ℕ, Bool, true, false, not, nat_eq, ◌&&◌, ◌||◌, Option, Some, List}
use Rattle.std.specs.Prelude.{◌++◌, filter}
use Rattle.std.specs.List.{list_all, list_any}
use Rattle.prefsql_values.specs.declared.value.CompareOp.{CompareOp}
use Rattle.prefsql_values.specs.declared.value.CompareOp.TheVariants.{Lt, Le}
use Rattle.prefsql_tables.specs.declared.place.ColumnPlace.{ColumnPlace}
use Rattle.conditions.specs.declared.condition.Cond.{Cond, fold-Cond}
use Rattle.conditions.specs.declared.condition.Cond.TheOpen.{Cond-F}
use Rattle.conditions.specs.declared.condition.Quality.{Quality}
use Rattle.conditions.specs.declared.condition.Scalar.{Scalar}
use Rattle.conditions.specs.declared.condition.Scalar.TheVariants as scalar
use Rattle.conditions.specs.Meaning.{scalars_of}
use Rattle.pref_terms.specs.declared.term.Term.{Term}
use Rattle.pref_terms.specs.Parts.{closed_numbers}
use Rattle.query_meaning.specs.declared.block.Block.{Block}
use Rattle.plan_algebra.specs.declared.plan.Conjunct.{Conjunct}
use Rattle.plan_algebra.specs.Conjuncts.{cond_of, onlys, wheres}

-- whether the columns are the same
abbrev pub is_place : ColumnPlace → ColumnPlace → Bool
is_place a b = nat_eq a.table b.table && nat_eq a.column b.column

-- whether the column is one of the list
abbrev pub is_place_in : List ColumnPlace → ColumnPlace → Bool
is_place_in places place = list_any (is_place place) places

-- whether the quality is of a leaf with one of the numbers
abbrev pub is_quality_of : List ℕ → Quality → Bool
is_quality_of numbers quality = list_any (nat_eq quality.leaf) numbers

-- < and <=
abbrev pub is_upper : CompareOp → Bool
is_upper Lt = true
is_upper Le = true
is_upper op = false

-- a quality of such a leaf on the left, a literal on the right
abbrev pub is_bound : List ℕ → Scalar → Scalar → Bool
is_bound numbers (scalar.Quality quality) (scalar.Literal value) = is_quality_of numbers quality
is_bound numbers a b = false

-- one layer of a condition: TOP of a closed leaf, or its LEVEL or DISTANCE below a literal
abbrev pub closed_step : List ℕ → Cond-F Bool → Bool
closed_step numbers (Cond-F.And parts) = false
closed_step numbers (Cond-F.Or parts) = false
closed_step numbers (Cond-F.Not part) = false
closed_step numbers (Cond-F.Compare op a b) = is_upper op && is_bound numbers a b
closed_step numbers (Cond-F.Between negate a low high) = false
closed_step numbers (Cond-F.OneOf negate a list) = false
closed_step numbers (Cond-F.IsNull negate a) = false
closed_step numbers (Cond-F.Top quality) = is_quality_of numbers quality

-- whether the condition bounds the quality of a closed leaf of the term
unfoldable pub is_closed : Term → Cond → Bool
is_closed term = fold-Cond Bool (closed_step (closed_numbers term))

-- a literal or a group column
abbrev pub is_group_scalar : List ColumnPlace → Scalar → Bool
is_group_scalar groups (scalar.Column place) = is_place_in groups place
is_group_scalar groups (scalar.Literal value) = true
is_group_scalar groups (scalar.Quality quality) = false

-- whether the condition holds no quality and reads group columns alone
unfoldable pub is_of_groups : List ColumnPlace → Cond → Bool
is_of_groups groups cond = list_all (is_group_scalar groups) (scalars_of cond)

abbrev pub sinks : Option Term → List ColumnPlace → Option Cond → Bool
sinks (Some term) groups (Some cond) = is_closed term cond || is_of_groups groups cond
sinks term groups cond = false

-- the conditions of BUT ONLY that go down, and those that stay
abbrev pub is_sunk : Block → Conjunct → Bool
is_sunk block c = sinks block.term block.groups (cond_of block c)

abbrev pub sunk : Block → List Conjunct
sunk block = filter (is_sunk block) (onlys block)

abbrev pub staying : Block → List Conjunct
staying block = filter (λ c. not (is_sunk block c)) (onlys block)

-- all that stand below the preference, WHERE first
abbrev pub lowered : Block → List Conjunct
lowered block = wheres block ++ sunk block
