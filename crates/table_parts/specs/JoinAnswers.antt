-- What is asked of a part of a table that stands beside others in FROM: the best choices of rows,
-- with all columns of all tables.
use Rattle.std.specs.Prelude.{ℕ, ◌+◌, ⊤, false, List, [], ◌∷◌, ◌++◌, map}
use Rattle.std.specs.List.{flat_map}
use Rattle.std.specs.List.Sorted.{IsPermutation}
use Rattle.prefsql_tables.specs.Table.{Tables, rows_of}
use Rattle.prefsql_tables.specs.declared.schema.Column.{Column}
use Rattle.prefsql_tables.specs.declared.table.AnswerRow.{AnswerRow}
use Rattle.conditions.specs.declared.condition.Scalar.TheVariants as scalar
use Rattle.query_meaning.specs.Answers.{answer_of}
use Rattle.query_meaning.specs.BlockFits.{HasPlaces}
use Rattle.query_meaning.specs.declared.block.Block.{Block}
use Rattle.query_meaning.specs.declared.block.FromTable.{FromTable}
use Rattle.query_meaning.specs.declared.block.Output.{Output}
use Rattle.table_parts.specs.KeptChoices.{best_choices}
use Rattle.table_parts.specs.KeptRows.{rows_from}
use Rattle.table_parts.specs.Parts.{AreFull}

-- the columns of a FROM table from a column on, as they stand
abbrev pub table_outputs : ℕ → ℕ → List Column → List Output
table_outputs table first [] = []
table_outputs table first (column ∷ columns) = record {
  name = column.name;
  scalar = scalar.Column (record { table = table; column = first });
} ∷ table_outputs table (first + 1) columns

-- the columns of all FROM tables from a table on
abbrev pub tables_outputs : ℕ → List FromTable → List Output
tables_outputs first [] = []
tables_outputs first (table ∷ from) =
    table_outputs first 0 table.schema.columns ++ tables_outputs (first + 1) from

-- the query for the best choices with all columns
abbrev pub best_choices_block : Block → Block
best_choices_block block = record {
  distinct = false;
  output = tables_outputs 0 block.from;
  from = block.from;
  filter = block.filter;
  term = block.term;
  groups = block.groups;
  only = [];
  order = [];
}

-- the rows of a choice, one after the other
abbrev pub joined_row : List AnswerRow → AnswerRow
joined_row choice = record { cells = flat_map (λ (row : AnswerRow). row.cells) choice }

-- each row of each FROM table has a value for each column
abbrev pub AreAllFull : Tables → List FromTable → Type 0
AreAllFull tables [] = ⊤
AreAllFull tables (table ∷ from) =
    AreFull table.schema.columns (rows_of tables table.index) × AreAllFull tables from

-- its answer are the best choices, each as often
abbrev pub AnswersBestChoices : Type 0
AnswersBestChoices =
    (block : Block) (tables : Tables) → HasPlaces block → AreAllFull tables block.from
    → IsPermutation (map joined_row (best_choices block (rows_from tables block.from)))
    ((answer_of tables (best_choices_block block)).rows)
