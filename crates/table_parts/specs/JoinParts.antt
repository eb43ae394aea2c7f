-- A table in parts that stands beside others in FROM: of each part the rows are kept that stand in
-- its best choices, and any others.
use Rattle.std.specs.Prelude.{◌≡◌, ◌++◌, List, ◌∷◌, length, Contains, slice_index_or}
use Rattle.std.specs.List.{flat_map}
use Rattle.std.specs.List.Sorted.{IsPermutation}
use Rattle.prefsql_tables.specs.Table.{Tables, no_row, rows_of}
use Rattle.prefsql_tables.specs.declared.table.AnswerRow.{AnswerRow}
use Rattle.query_meaning.specs.Answers.{answer_of}
use Rattle.query_meaning.specs.BlockFits.{HasPlaces}
use Rattle.query_meaning.specs.declared.block.Block.{Block}
use Rattle.query_meaning.specs.declared.block.FromTable.{FromTable}
use Rattle.table_parts.specs.KeptChoices.{best_choices}
use Rattle.table_parts.specs.KeptRows.{rows_from}

-- the rows of a part, those of them that are kept, and those that are left out
pub record KeptPart : Type 0 where
  pub rows : List AnswerRow
  pub kept : List AnswerRow
  pub left_out : List AnswerRow

-- between the tables before it and behind it, no best choice over the part has a row that is left
-- out
pub record KeepsBestOfPart (block : Block) (before behind : List (List AnswerRow))
    (part : KeptPart) : Type 0 where
  pub parted : IsPermutation part.rows (part.kept ++ part.left_out)
  pub none_best : (choice : List AnswerRow)
      → Contains (best_choices block (before ++ part.rows ∷ behind)) choice
      → ¬ Contains part.left_out (slice_index_or choice (length before) no_row)

-- the table's rows are those of the parts, and in the other set those that are kept of each; the
-- other FROM tables are the same
pub record IsKeptByParts (block : Block) (before : List FromTable) (table : FromTable)
    (behind : List FromTable) (parts : List KeptPart) (whole kept : Tables) : Type 0 where
  pub same_before : rows_from whole before ≡ rows_from kept before
  pub same_behind : rows_from whole behind ≡ rows_from kept behind
  pub rows : rows_of whole table.index ≡ flat_map (λ (part : KeptPart). part.rows) parts
  pub kept_rows : rows_of kept table.index ≡ flat_map (λ (part : KeptPart). part.kept) parts
  pub each : (part : KeptPart) → Contains parts part
      → KeepsBestOfPart block (rows_from whole before) (rows_from whole behind) part

-- over the rows that are kept of the parts a query has the answer that it has over all
abbrev pub AnswersByKeptParts : Type 0
AnswersByKeptParts =
    (block : Block) (before : List FromTable) (table : FromTable) (behind : List FromTable)
    (parts : List KeptPart) (whole kept : Tables) → HasPlaces block
    → block.from ≡ before ++ table ∷ behind
    → IsKeptByParts block before table behind parts whole kept
    → answer_of kept block ≡ answer_of whole block
