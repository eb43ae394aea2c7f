use Rattle.std.proofs.Common.{◌≡◌, map, take}
use Rattle.prefsql_values.specs.Value.{value_of}
use Rattle.prefsql_values.specs.declared.value.Value.{Value}
use Rattle.value_index.specs.Places.{bucket_at, equal_places}
use Rattle.value_index.proofs.index.ValueIndex.of.Given as goal

abbrev pub invariant-loop-place : goal.invariant-loop-place
invariant-loop-place l = (v : Value) → bucket_at l.buckets v ≡ equal_places (map value_of (take l.place l.cells)) v
