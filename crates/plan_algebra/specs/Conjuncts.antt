-- The conditions of a block by their positions. This is this project's own.
use Rattle.std.specs.Prelude.{Option, Some, None, List, [], length, map, slice_get}
use Rattle.std.specs.List.{range_with_len}
use Rattle.prefsql_tables.specs.declared.place.ColumnPlace.{ColumnPlace}
use Rattle.conditions.specs.Places.{read_by}
use Rattle.conditions.specs.declared.condition.Cond.{Cond}
use Rattle.query_meaning.specs.declared.block.Block.{Block}
use Rattle.plan_algebra.specs.declared.plan.Conjunct.{Conjunct}
use Rattle.plan_algebra.specs.declared.plan.Conjunct.TheVariants as conjunct

-- the conditions of WHERE, in their order, and those of BUT ONLY
abbrev pub wheres : Block → List Conjunct
wheres block = map conjunct.Filter (range_with_len 0 (length block.filter))

abbrev pub onlys : Block → List Conjunct
onlys block = map conjunct.Only (range_with_len 0 (length block.only))

-- the condition at the position
abbrev pub cond_of : Block → Conjunct → Option Cond
cond_of block (conjunct.Filter i) = slice_get block.filter i
cond_of block (conjunct.Only i) = slice_get block.only i

-- the columns that it reads
abbrev pub cond_places : Option Cond → List ColumnPlace
cond_places None = []
cond_places (Some cond) = read_by cond

abbrev pub places_of : Block → Conjunct → List ColumnPlace
places_of block c = cond_places (cond_of block c)
