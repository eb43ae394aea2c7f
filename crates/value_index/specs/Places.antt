-- The places of a list by the values that stand there (ISO/IEC 9075:1992, comparison predicate:
-- NULL is equal to nothing).
use Rattle.std.specs.Prelude.{◌≡◌, ℕ, Bool, Option, Some, None, List, [], length, filter, Vec}
use Rattle.std.specs.Prelude.{slice_index_or}
use Rattle.std.specs.List.{range_with_len}
use Rattle.std.specs.declared.alloc.Global.{Global}
use Rattle.indexmap.specs.IndexMap.{IndexMap, get}
use Rattle.prefsql_values.specs.Truth.{is_true}
use Rattle.prefsql_values.specs.Value.{comparison, value_eq}
use Rattle.prefsql_values.specs.declared.value.CompareOp.TheVariants.{Eq}
use Rattle.prefsql_values.specs.declared.value.Value.{Value}
use Rattle.prefsql_values.specs.declared.value.Value.TheVariants.{Null}
use Rattle.value_index.specs.declared.index.ValueIndex.{ValueIndex}

-- whether it is True that the two are equal
abbrev pub are_equal : Value → Value → Bool
are_equal a b = is_true (comparison Eq a b)

-- the places of the values that are equal to one
abbrev pub equal_places : List Value → Value → List ℕ
equal_places values v =
    filter (λ place. are_equal (slice_index_or values place Null) v)
    (range_with_len 0 (length values))

abbrev pub listed : Option (Vec ℕ Global) → List ℕ
listed None = []
listed (Some places) = places.items

-- the places that a map has for a value
abbrev pub bucket_at : {S : Type 0} → IndexMap Value (Vec ℕ Global) S → Value → List ℕ
bucket_at map v = listed (get value_eq map v)

abbrev pub places_in : ValueIndex → Value → List ℕ
places_in index v = bucket_at index.buckets v

-- an index of the values
pub record IsIndexOf (values : List Value) (index : ValueIndex) : Type 0 where
  pub places : (v : Value) → places_in index v ≡ equal_places values v
