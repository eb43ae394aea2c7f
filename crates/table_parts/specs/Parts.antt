-- A table in parts, and what is asked of each part: the best rows, with all columns.
use Rattle.std.specs.Prelude.{◌≡◌, ℕ, ◌+◌, false, List, [], ◌∷◌, length, All}
use Rattle.std.specs.List.{flat_map}
use Rattle.std.specs.List.Sorted.{IsPermutation}
use Rattle.prefsql_tables.specs.Table.{Tables, rows_of}
use Rattle.prefsql_tables.specs.Valid.{IsTableSet}
use Rattle.prefsql_tables.specs.declared.schema.Column.{Column}
use Rattle.prefsql_tables.specs.declared.table.AnswerRow.{AnswerRow}
use Rattle.conditions.specs.declared.condition.Scalar.TheVariants as scalar
use Rattle.query_meaning.specs.Answers.{answer_of}
use Rattle.query_meaning.specs.BlockFits.{FitsTables, HasPlaces}
use Rattle.query_meaning.specs.declared.block.Block.{Block}
use Rattle.query_meaning.specs.declared.block.FromTable.{FromTable}
use Rattle.query_meaning.specs.declared.block.Output.{Output}
use Rattle.table_parts.specs.KeptRows.{best_table_rows}

-- the columns of the one FROM table from a column on, as they stand
abbrev pub columns_shown : ℕ → List Column → List Output
columns_shown first [] = []
columns_shown first (column ∷ columns) = record {
  name = column.name;
  scalar = scalar.Column (record { table = 0; column = first });
} ∷ columns_shown (first + 1) columns

-- the query for the best rows with all columns: it has the same WHERE, PREFERRING and GROUPING, and
-- no BUT ONLY, no DISTINCT and no ORDER BY
abbrev pub best_rows_block : Block → FromTable → Block
best_rows_block block table = record {
  distinct = false;
  output = columns_shown 0 table.schema.columns;
  from = block.from;
  filter = block.filter;
  term = block.term;
  groups = block.groups;
  only = [];
  order = [];
}

-- each row has a value for each column
abbrev pub AreFull : List Column → List AnswerRow → Type 0
AreFull columns = All (λ (row : AnswerRow). length row.cells ≡ length columns)

-- its answer are the best rows, each as often
abbrev pub AnswersBestRows : Type 0
AnswersBestRows =
    (block : Block) (table : FromTable) (tables : Tables) → HasPlaces block
    → block.from ≡ table ∷ []
    → AreFull table.schema.columns (rows_of tables table.index)
    → IsPermutation (best_table_rows block (rows_of tables table.index))
    ((answer_of tables (best_rows_block block table)).rows)

-- the rows of the whole table are those of the parts, and these were answered and joined
pub record IsAnsweredByParts (block : Block) (table : FromTable) (parts : List Tables)
    (whole joined : Tables) : Type 0 where
  pub full : AreFull table.schema.columns (rows_of whole table.index)
  pub rows : rows_of whole table.index ≡ flat_map (λ part. rows_of part table.index) parts
  pub answers : rows_of joined table.index
      ≡ flat_map (λ part. (answer_of part (best_rows_block block table)).rows) parts

-- the joined answers are full rows again, so that they too may be cut into parts, and over them a
-- query has the answer that it has over the whole table
abbrev pub AnswersByParts : Type 0
AnswersByParts =
    (block : Block) (table : FromTable) (parts : List Tables) (whole joined : Tables)
    → HasPlaces block → block.from ≡ table ∷ []
    → IsAnsweredByParts block table parts whole joined
    → AreFull table.schema.columns (rows_of joined table.index)
    × (answer_of joined block ≡ answer_of whole block)

-- the rows of a valid table are full
abbrev pub HasFullRows : Type 0
HasFullRows =
    (block : Block) (table : FromTable) (tables : Tables) → block.from ≡ table ∷ []
    → FitsTables tables block → IsTableSet tables
    → AreFull table.schema.columns (rows_of tables table.index)
