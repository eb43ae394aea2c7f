-- Sets of tables that differ in the places of their rows alone, and answers that do not tell them
-- apart.
use Rattle.std.specs.Prelude.{ℕ, ◌≡◌}
use Rattle.std.specs.List.Sorted.{IsPermutation}
use Rattle.prefsql_tables.specs.Table.{Tables, rows_of}
use Rattle.prefsql_tables.specs.Valid.{IsAlike}
use Rattle.query_meaning.specs.Answers.{answer_of}
use Rattle.query_meaning.specs.BlockFits.{HasPlaces}
use Rattle.query_meaning.specs.declared.block.Block.{Block}

-- the same names in the same order with equal columns, and in each table the same rows, each as
-- often, in some order
pub record AreReordered (tables others : Tables) : Type 0 where
  pub alike : IsAlike tables others
  pub rows : (t : ℕ) → IsPermutation (rows_of tables t) (rows_of others t)

-- an answer does not change when the rows of tables change places
abbrev pub HasOneAnswer : Type 0
HasOneAnswer =
    (block : Block) (tables others : Tables) → HasPlaces block → AreReordered tables others
    → answer_of others block ≡ answer_of tables block
