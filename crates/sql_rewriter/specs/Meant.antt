-- What it is for a query to mean the answer of a block (Kießling and Köstler 2002).
use Rattle.std.specs.Prelude.{◌≡◌}
use Rattle.query_meaning.specs.Answers as block
use Rattle.query_meaning.specs.declared.block.Block.{Block}
use Rattle.sql_tree.specs.Meaning.{answer_of}
use Rattle.sql_tree.specs.declared.tree.SqlQuery.{SqlQuery}
use Rattle.written_query_meaning.specs.Meaning.{OverTables}

-- over each valid set of tables that the block fits the query has the block's answer: its names,
-- and its rows in number and order
abbrev pub HasAnswerOf : Block → SqlQuery → Type 0
HasAnswerOf asked query = OverTables asked (λ tables.
    answer_of tables query ≡ block.answer_of tables asked)
