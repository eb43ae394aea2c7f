-- The rows of a list with their values in the group columns. This is this project's own.
use Rattle.std.specs.Prelude.{◌≡◌, ◌<◌, ℕ, List, length, map}
use Rattle.std.specs.Cmp.Lexicographic.{slice_cmp}
use Rattle.std.specs.Ordering.{on}
use Rattle.std.specs.declared.cmp.Ordering.{Ordering}
use Rattle.prefsql_values.specs.Value.{nulls_last, value_of}
use Rattle.prefsql_values.specs.declared.value.Cell.{Cell}
use Rattle.prefsql_tables.specs.declared.place.Combo.{Combo}
use Rattle.pref_terms.specs.declared.bound.BoundTerm.{BoundTerm}
use Rattle.plan_groups.specs.Groups.{seen_at}
use Rattle.plan_groups.specs.declared.members.Member.{Member}

abbrev pub place_of : Member → ℕ
place_of member = member.place

-- the order of the values in which NULL is last
abbrev pub cell_order : Cell → Cell → Ordering
cell_order = on value_of nulls_last

-- by the group columns: the first that tells the rows apart decides
abbrev pub by_group : Member → Member → Ordering
by_group a b = slice_cmp cell_order a.key.items b.key.items

-- a row of the list, with its values in the group columns
pub record HasGroupOf (bound : BoundTerm) (combos : List Combo) (member : Member) : Type 0 where
  pub within : member.place < length combos
  pub values :
      map value_of member.key.items ≡ map (seen_at bound combos member.place) bound.groups.now
