-- When the name of a column, as it is written with its correlation name, means that column alone.
use Rattle.std.specs.Prelude.{ℕ, Bool, false, ◌&&◌, ◌==◌, List, [], ◌∷◌, Some, slice_index_or}
use Rattle.query_tree.specs.declared.name.NameTree.{NameTree}
use Rattle.sql_tree.specs.declared.tree.SqlPlace.{SqlPlace}
use Rattle.sql_text.specs.Text.{Names, item_at}
use Rattle.sql_resolver.specs.NamesMeant.{places_of}

-- the two places are one
abbrev pub place_eq : SqlPlace → SqlPlace → Bool
place_eq p q = p.up == q.up && (p.item == q.item && p.column == q.column)

abbrev pub is_only : List SqlPlace → SqlPlace → Bool
is_only [] place = false
is_only (p ∷ []) place = place_eq p place
is_only (p ∷ q ∷ more) place = false

-- the column's name as it is written, with its correlation name
abbrev pub written_name : Names → SqlPlace → ℕ → NameTree
written_name names place at = record { first = (item_at names place).name; second = Some (slice_index_or (item_at names place).columns place.column []); at = at }

-- that name means the column and no other
abbrev pub is_found : Names → SqlPlace → Bool
is_found names place = is_only (places_of (item_at names place).name (Some (slice_index_or (item_at names place).columns place.column [])) 0 names) place
