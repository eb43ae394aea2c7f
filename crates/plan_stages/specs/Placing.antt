-- The lowest node of a plan that has all tables of a condition. This is this project's own.
use Rattle.std.specs.Prelude.{ℕ, Bool, not, nat_eq, ◌&&◌, List, [], ◌∷◌, max, filter}
use Rattle.std.specs.List.{list_any}
use Rattle.prefsql_tables.specs.declared.place.ColumnPlace.{ColumnPlace}
use Rattle.query_meaning.specs.declared.block.Block.{Block}
use Rattle.plan_algebra.specs.Conjuncts.{places_of}
use Rattle.plan_algebra.specs.declared.plan.Conjunct.{Conjunct}

-- the last of the tables of some columns, and the first table where there is no column
abbrev pub last_table : List ColumnPlace → ℕ
last_table [] = 0
last_table (place ∷ places) = max place.table (last_table places)

-- whether the columns are of two tables or more
abbrev pub is_joint : List ColumnPlace → Bool
is_joint places =
    list_any (λ (place : ColumnPlace). not (nat_eq place.table (last_table places))) places

-- the lowest node that has all tables of the condition: the scan of its table, or the join that
-- adds its last one
abbrev pub is_at_scan : Block → ℕ → Conjunct → Bool
is_at_scan block table c =
    nat_eq (last_table (places_of block c)) table && not (is_joint (places_of block c))

abbrev pub is_at_join : Block → ℕ → Conjunct → Bool
is_at_join block table c =
    nat_eq (last_table (places_of block c)) table && is_joint (places_of block c)

-- those of the conditions that stand at the scan of a table, and at the join that adds it
abbrev pub at_scan : Block → List Conjunct → ℕ → List Conjunct
at_scan block conjuncts table = filter (is_at_scan block table) conjuncts

abbrev pub at_join : Block → List Conjunct → ℕ → List Conjunct
at_join block conjuncts table = filter (is_at_join block table) conjuncts
