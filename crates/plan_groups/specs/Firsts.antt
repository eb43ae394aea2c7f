-- The places at which the values of a column stand first. This is this project's own.
use Rattle.std.specs.Prelude.{ℕ, List, map, slice_index_or}
use Rattle.prefsql_values.specs.declared.value.Value.{Value}
use Rattle.prefsql_tables.specs.declared.place.ColumnPlace.{ColumnPlace}
use Rattle.prefsql_tables.specs.declared.place.Combo.{Combo}
use Rattle.pref_terms.specs.declared.bound.BoundTerm.{BoundTerm}
use Rattle.plan_groups.specs.Groups.{seen_by}
use Rattle.value_index.specs.Places.{equal_places}

-- the values of the rows in a column
abbrev pub values_in : BoundTerm → List Combo → ColumnPlace → List Value
values_in bound combos place = map (λ combo. seen_by bound combo place) combos

-- the place of the first of the values that is equal, or 0
abbrev pub first_equal : List Value → Value → ℕ
first_equal values v = slice_index_or (equal_places values v) 0 0
