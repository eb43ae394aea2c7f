-- The summary of the bench. It is this project's own.
use Rattle.std.specs.Prelude.{ℕ, ◌+◌, List, [], ◌∷◌, ◌++◌, map, length, codes, decimal}
use Rattle.query_meaning.specs.Answers.{answer_of}
use Rattle.query_meaning.specs.declared.block.Block.{Block}
use Rattle.prefsql_bench.specs.BenchTable.{bench_set}
use Rattle.prefsql_bench.specs.Statements.{bench_blocks}

-- as `statement 2 rows 13`
abbrev pub statement_line : ℕ → ℕ → List ℕ
statement_line number rows =
    codes "statement " ++ decimal number ++ codes " rows " ++ decimal rows ++ codes "\n"

-- a line for each statement, from a number on, of whose answers these are the numbers of rows
abbrev pub statement_lines : ℕ → List ℕ → List ℕ
statement_lines number [] = []
statement_lines number (rows ∷ more) =
    statement_line number rows ++ statement_lines (number + 1) more

-- the line `bench N`, and a line for each statement
abbrev pub bench_text : ℕ → List ℕ → List ℕ
bench_text row_count answers =
    codes "bench " ++ decimal row_count ++ codes "\n" ++ statement_lines 1 answers

-- how many rows the answer of a query has over the table with so many rows
abbrev pub answer_rows : ℕ → Block → ℕ
answer_rows row_count block = length (answer_of (bench_set row_count) block).rows

-- what the bench with so many rows writes
abbrev pub bench_summary : ℕ → List ℕ
bench_summary row_count = bench_text row_count (map (answer_rows row_count) bench_blocks)
