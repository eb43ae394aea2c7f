-- What the SQL text of statements says to whoever reads it, and what its queries mean. This is this
-- project's own.
use Rattle.std.specs.Prelude.{◌≡◌, ◌≤◌, ℕ, ⊤, List, [], ◌∷◌, All, IsUtf8, Option, length}
use Rattle.prefsql_io.specs.Files.{Files}
use Rattle.prefsql_tables.specs.Table.{Tables}
use Rattle.query_meaning.specs.declared.block.Block.{Block}
use Rattle.rewritten_query.specs.Rewriting.{rewritten}
use Rattle.sql_read_back.specs.Texts.{max_bytes}
use Rattle.sql_reader.specs.Reads.{ReadsAs}
use Rattle.sql_text.specs.Text.{text_of}
use Rattle.sql_tree.specs.declared.tree.SqlQuery.{SqlQuery}
use Rattle.written_script.specs.WrittenScript.{IsOther, answers_of_blocks, answers_of_queries}
use Rattle.written_script.specs.WrittenScript.{script_of, written}
use Rattle.prefsql_session.specs.Opening.{opening, over}
use Rattle.prefsql_session.specs.Stage.{Stage, ready}
use Rattle.prefsql_session.specs.Texts as texts
use Rattle.prefsql_session.specs.declared.command.Shown.{Shown}
use Rattle.prefsql_session.specs.declared.command.Shown.TheVariants.{Query}
use Rattle.prefsql_session.specs.declared.command.Task.{Task}
use Rattle.prefsql_session.specs.declared.command.Wish.TheVariants.{Show}
use Rattle.prefsql_session.specs.declared.work.Work.{Work}
use Rattle.prefsql_session.specs.declared.work.Work.TheVariants.{Statements}

-- Over every valid set of tables with the same names in the same order and equal columns, the SQL
-- script of the statements reads as the queries that they are written as, and as nothing else; and
-- these answer what the statements answer: names, rows, how often each stands there, and their
-- order.
pub record SaysTheSame (tables : Tables) (blocks : List Block) : Type 0 where
  pub reads : (others : Tables) → IsOther tables others
      → ReadsAs others (script_of blocks) (written blocks)
  pub alone : (others : Tables) (queries : List SqlQuery) → IsOther tables others
      → ReadsAs others (script_of blocks) queries → queries ≡ written blocks
  pub answers : (others : Tables) → IsOther tables others
      → answers_of_queries others (written blocks) ≡ answers_of_blocks others blocks

-- so it is of a script that is not too long to be read
abbrev pub IsWritten : Tables → List Block → Type 0
IsWritten tables blocks = length (script_of blocks) ≤ max_bytes → SaysTheSame tables blocks

-- so it is of each text by itself, and of all of them one after the other
pub record AreWritten (tables : Tables) (blocks : List Block) : Type 0 where
  pub each : All (λ block. IsWritten tables (block ∷ [])) blocks
  pub whole : IsWritten tables blocks

-- what the work says where it is SQL text
abbrev pub IsWrittenAt : Stage Work → Type 0
IsWrittenAt (ready (Statements (Show Query) tables blocks)) = AreWritten tables blocks
IsWrittenAt end = ⊤

-- the words and the files lead to this task over these tables
abbrev pub OpensWith : List (List ℕ) → Option Files → Task → Tables → Type 0
OpensWith words files task tables = opening words files ≡ ready (over task tables)

-- two runs come to good ends, and write the same text
pub record WriteTheSame (One Other : Stage Work → Type 0) : Type 0 where
  pub one : Work
  pub other : Work
  pub comes : One (ready one)
  pub other_comes : Other (ready other)
  pub same : texts.text_of one ≡ texts.text_of other

-- SQL texts are UTF-8
abbrev pub AreUtf8 : Shown → List Block → Type 0
AreUtf8 Query blocks = All (λ block. IsUtf8 (text_of (rewritten block))) blocks
AreUtf8 shown blocks = ⊤
