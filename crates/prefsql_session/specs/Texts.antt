-- What a run is to write at its good end. All of it is this project's own.
use Rattle.std.specs.Prelude.{ℕ, ◌≤◌, List, All}
use Rattle.std.specs.List.{flat_map}
use Rattle.prefsql_tables.specs.Table.{Tables}
use Rattle.plan_algebra.specs.PlanText.{plan_text}
use Rattle.prefsql_bench.specs.Summary.{bench_summary}
use Rattle.plan_stages.specs.Stages.{block_plan}
use Rattle.query_meaning.specs.Answers.{answer_of}
use Rattle.query_meaning.specs.BlockFits.{FitsTables}
use Rattle.query_meaning.specs.Valid.{IsValidBlock}
use Rattle.query_meaning.specs.declared.block.Block.{Block}
use Rattle.rewritten_query.specs.Rewriting.{rewritten}
use Rattle.sql_text.specs.Text as sql
use Rattle.table_csv.specs.AnswerText.{text_of_answer}
use Rattle.sql_tree.specs.Fits.{FitsTables as FitsQuery}
use Rattle.sql_tree.specs.Meaning as tree
use Rattle.sql_tree.specs.WellFormed.{IsWellFormed}
use Rattle.sql_tree.specs.declared.tree.SqlQuery.{SqlQuery}
use Rattle.prefsql_session.specs.declared.command.Wish.{Wish}
use Rattle.prefsql_session.specs.declared.command.Wish.TheVariants.{Answer, Show}
use Rattle.prefsql_session.specs.declared.command.Shown.{Shown}
use Rattle.prefsql_session.specs.declared.command.Shown.TheVariants.{Plan, Query, Executed}
use Rattle.prefsql_session.specs.declared.work.Work.{Work}
use Rattle.prefsql_session.specs.declared.work.Work.TheVariants.{Bench, Queries, Statements}

-- what is shown of a statement: its plan, its SQL query, or the answer, to which that query comes
abbrev pub shown_text : Shown → Tables → Block → List ℕ
shown_text Plan tables block = plan_text block (block_plan block)
shown_text Query tables block = sql.text_of (rewritten block)
shown_text Executed tables block = text_of_answer (answer_of tables block)

-- what is to be written of a statement
abbrev pub statement_text : Wish → Tables → Block → List ℕ
statement_text (Answer tells) tables block = text_of_answer (answer_of tables block)
statement_text (Show shown) tables block = shown_text shown tables block

-- the answer of an SQL query
abbrev pub query_text : Tables → SqlQuery → List ℕ
query_text tables query = text_of_answer (tree.answer_of tables query)

-- the texts of the statements, or of the queries, one after the other
abbrev pub text_of : Work → List ℕ
text_of (Statements wish tables blocks) = flat_map (statement_text wish tables) blocks
text_of (Queries tables queries) = flat_map (query_text tables) queries
text_of (Bench count) = bench_summary count

-- a query that has an answer over these tables, a plan, and an SQL query that means the same
pub record IsAnswerable (tables : Tables) (block : Block) : Type 0 where
  pub valid : IsValidBlock block
  pub fits : FitsTables tables block

abbrev pub AreAnswerable : Tables → List Block → Type 0
AreAnswerable tables = All (IsAnswerable tables)

-- an SQL query that has an answer over these tables
pub record IsExecutable (tables : Tables) (query : SqlQuery) : Type 0 where
  pub formed : IsWellFormed query
  pub fits : FitsQuery tables query

abbrev pub AreExecutable : Tables → List SqlQuery → Type 0
AreExecutable tables = All (IsExecutable tables)

-- how many rows the table of the bench may have
pub record IsBenchCount (count : ℕ) : Type 0 where
  pub some : 1 ≤ count
  pub few : count ≤ 100000

-- each statement has its text
abbrev pub HasTexts : Work → Type 0
HasTexts (Statements wish tables blocks) = AreAnswerable tables blocks
HasTexts (Queries tables queries) = AreExecutable tables queries
HasTexts (Bench count) = IsBenchCount count
