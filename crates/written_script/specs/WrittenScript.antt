-- A preference script as a script in SQL (after Kießling and Köstler 2002), and over which tables
-- it is read. The limits of a script are this project's own.
use Rattle.std.specs.Prelude.{ℕ, ◌≤◌, List, length, map, All, IsUtf8}
use Rattle.prefsql_tables.specs.Table.{Tables}
use Rattle.prefsql_tables.specs.Valid.{IsAlike, IsTableSet}
use Rattle.prefsql_tables.specs.declared.answer.Answer.{Answer}
use Rattle.query_meaning.specs.Answers as blocks
use Rattle.query_meaning.specs.BlockFits.{FitsTables}
use Rattle.query_meaning.specs.Valid.{IsValidBlock}
use Rattle.query_meaning.specs.declared.block.Block.{Block}
use Rattle.sql_tree.specs.Meaning as queries
use Rattle.sql_tree.specs.declared.tree.SqlQuery.{SqlQuery}
use Rattle.rewritten_query.specs.Rewriting.{rewritten}
use Rattle.sql_text.specs.Scripts.{max_statements}
use Rattle.sql_read_back.specs.Texts.{max_bytes, texts_of}

-- the query of each block
abbrev pub written : List Block → List SqlQuery
written = map rewritten

-- their texts, one after the other
abbrev pub script_of : List Block → List ℕ
script_of blocks = texts_of (written blocks)

-- what blocks, and queries, answer over tables, each in order
abbrev pub answers_of_blocks : Tables → List Block → List Answer
answers_of_blocks tables = map (blocks.answer_of tables)

abbrev pub answers_of_queries : Tables → List SqlQuery → List Answer
answers_of_queries tables = map (queries.answer_of tables)

-- The blocks are no more than a script may have, each is valid and fits the tables, and their
-- script in SQL is UTF-8 and no longer than one that is read.
pub record AreWritten (tables : Tables) (blocks : List Block) : Type 0 where
  pub few : length blocks ≤ max_statements
  pub valid : All IsValidBlock blocks
  pub fits : All (FitsTables tables) blocks
  pub utf8 : IsUtf8 (script_of blocks)
  pub within : length (script_of blocks) ≤ max_bytes

-- a valid set of tables with the same names in the same order and equal columns, and any rows
pub record IsOther (tables others : Tables) : Type 0 where
  pub valid : IsTableSet others
  pub alike : IsAlike tables others
