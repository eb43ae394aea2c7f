-- What the words and the files come to, in the order of work. All of it is this project's own.
use Rattle.std.specs.Prelude.{ℕ, List, [], ◌∷◌, ◌++◌, length, Bool, false, ◌||◌, if◌then◌else◌}
use Rattle.std.specs.Prelude.{Option, None, Some, Result, Ok, Err, nat_lt}
use Rattle.std.specs.List.{list_any}
use Rattle.std.specs.Str.{bytes_eq}
use Rattle.prefsql_io.specs.Files.{Files, bytes_at}
use Rattle.prefsql_tables.specs.Names.{table_names}
use Rattle.prefsql_tables.specs.Table.{Tables}
use Rattle.prefsql_tables.specs.TableData.{TableData}
use Rattle.table_csv.specs.FileTable.{file_table}
use Rattle.table_csv.specs.declared.fault.TableSpot.{TableSpot}
use Rattle.prefsql_session.specs.CommandLine.{accepted}
use Rattle.prefsql_session.specs.Stage.{Stage, untold, unaccepted, missing, faulty, ready, and_then}
use Rattle.prefsql_session.specs.Stage.{barred_if, ready_or}
use Rattle.prefsql_session.specs.declared.command.Command.{Command}
use Rattle.prefsql_session.specs.declared.command.Command.TheVariants.{Bench, OnScript}
use Rattle.prefsql_session.specs.declared.command.TableWord.{TableWord}
use Rattle.prefsql_session.specs.declared.command.Task.{Task}
use Rattle.prefsql_session.specs.declared.fault.Fault.{Fault}
use Rattle.prefsql_session.specs.declared.fault.Fault.TheVariants.{Table}

-- what a run has to do once its tables are there
pub data Job : Type 0 where
  over : Task → Tables → Job
  -- the bench
  bench_of : ℕ → Job

-- ---- one table

-- a fault of a whole file: 511 where it is too long, 512 where its table's name stands before
abbrev pub file_fault : List ℕ → ℕ → Fault
file_fault name code = Table name (record { code = code; at_record = 0; at_field = 0 })

abbrev pub as_table : List ℕ → Result TableData TableSpot → Stage TableData
as_table name (Ok table) = ready table
as_table name (Err spot) = faulty (Table name spot)

-- a file of at most 8,388,608 bytes is read as a table
abbrev pub table_of_bytes : List ℕ → List ℕ → Stage TableData
table_of_bytes name bytes =
    if nat_lt 8388608 (length bytes) then faulty (file_fault name 511)
    else as_table name (file_table bytes)

-- the bytes at a path
abbrev pub file_stage : Option Files → List ℕ → Stage (List ℕ)
file_stage None path = untold
file_stage (Some held) path = ready_or missing (bytes_at held path)

abbrev pub is_among : List (List ℕ) → List ℕ → Bool
is_among names name = list_any (bytes_eq name) names

-- a name that stands before is refused; then the file is loaded, and read as a table
abbrev pub table_stage : Option Files → List (List ℕ) → TableWord → Stage TableData
table_stage files before word =
    if is_among before word.name then faulty (file_fault word.name 512)
    else and_then (file_stage files word.path) (table_of_bytes word.name)

-- ---- all tables

-- the tables of the words in their order, after those that are there
abbrev pub tables_after : Option Files → Tables → List TableWord → Stage Tables
tables_after files tables [] = ready tables
tables_after files tables (word ∷ words) =
    and_then (table_stage files (table_names tables) word) (λ table.
    tables_after files (tables ++ record { name = word.name; table = table } ∷ []) words)

-- a name stands twice, or is one of these
abbrev pub has_repeated : List (List ℕ) → List TableWord → Bool
has_repeated before [] = false
has_repeated before (word ∷ words) =
    is_among before word.name || has_repeated (before ++ word.name ∷ []) words

-- That a name stands twice is seen from the words, so such a run has no good end also where the
-- files are not told. Without table words no file is asked for.
abbrev pub tables_stage : Option Files → List TableWord → Stage Tables
tables_stage files words = barred_if (has_repeated [] words) (tables_after files [] words)

-- ---- the opening

abbrev pub job_stage : Option Files → Command → Stage Job
job_stage files (OnScript task words) =
    and_then (tables_stage files words) (λ tables. ready (over task tables))
job_stage files (Bench count) = ready (bench_of count)

-- the words are judged, and then the tables come in
abbrev pub opening : List (List ℕ) → Option Files → Stage Job
opening words files = and_then (ready_or unaccepted (accepted words)) (job_stage files)
