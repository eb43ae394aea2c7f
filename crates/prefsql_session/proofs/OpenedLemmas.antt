-- The tables that a run opens are valid, and what its opening comes to is told where the files are.
use Rattle.std.proofs.Common.{◌≡◌, ℕ, ◌+◌, ◌<◌, ◌≤◌, List, [], ◌∷◌, ◌++◌, length, All, Bool, true, false, if◌then◌else◌, Option, Some, None, Result, Ok, Err, refl, sym, ap, ◌∙◌, subst, nat_lt, arith}
use Rattle.std.proofs.lemmas.List.{length_push}
use Rattle.std.proofs.lemmas.List.Elements.{All-nil, All-head, All-tail}
use Rattle.std.specs.Prelude.{IsSome}
use Rattle.prefsql_io.specs.Files.{Files, bytes_at}
use Rattle.prefsql_tables.proofs.ValidLemmas.{IsTableSet-push}
use Rattle.prefsql_tables.specs.Names.{table_names}
use Rattle.prefsql_tables.specs.Table.{Tables}
use Rattle.prefsql_tables.specs.TableData.{NamedTable, TableData}
use Rattle.prefsql_tables.specs.Valid.{IsTable, IsTableSet}
use Rattle.prefsql_values.specs.Limits.{IsName}
use Rattle.table_csv.proofs.FileLemmas.{file_table_valid}
use Rattle.table_csv.specs.FileTable.{file_table}
use Rattle.table_csv.specs.declared.fault.TableSpot.{TableSpot}
use Rattle.prefsql_session.proofs.NameLemmas.{AreNamed, IsNamedCommand, accepted_named}
use Rattle.prefsql_session.proofs.OpeningLemmas.{barred_if-false, opened_name, told_stage}
use Rattle.prefsql_session.specs.CommandLine.{accepted}
use Rattle.prefsql_session.specs.Opening.{Job, bench_of, over, as_table, file_fault, file_stage, has_repeated, is_among, job_stage, opening, table_of_bytes, table_stage, tables_after, tables_stage}
use Rattle.prefsql_session.specs.Stage.{Stage, untold, barred, unaccepted, missing, faulty, ready, and_then, barred_if, ready_or, IsTold, MayGive}
use Rattle.prefsql_session.specs.declared.command.Command.{Command}
use Rattle.prefsql_session.specs.declared.command.Command.TheVariants.{Bench, OnScript}
use Rattle.prefsql_session.specs.declared.command.TableWord.{TableWord}
use Rattle.prefsql_session.specs.declared.command.Task.{Task}

-- ---- one table

read_valid : (name : List ℕ) (r : Result TableData TableSpot) (table : TableData) → ((found : TableData) → r ≡ Ok found → IsTable found) → as_table name r ≡ ready table → IsTable table
read_valid name (Ok found) table valid is = let same : found ≡ table = cc in subst IsTable same (valid found refl)
read_valid name (Err spot) table valid is = absurd (cc)

bytes_valid : (name bytes : List ℕ) (long : Bool) (table : TableData) → (if long then faulty (file_fault name 511) else as_table name (file_table bytes)) ≡ ready table → IsTable table
bytes_valid name bytes true table is = absurd (cc)
bytes_valid name bytes false table is = read_valid name (file_table bytes) table (file_table_valid bytes) is

held_valid : (name : List ℕ) (o : Option (List ℕ)) (table : TableData) → and_then (ready_or missing o) (table_of_bytes name) ≡ ready table → IsTable table
held_valid name None table is = absurd (cc)
held_valid name (Some bytes) table is = bytes_valid name bytes (nat_lt 8388608 (length bytes)) table is

file_valid : (files : Option Files) (name path : List ℕ) (table : TableData) → and_then (file_stage files path) (table_of_bytes name) ≡ ready table → IsTable table
file_valid None name path table is = absurd (cc)
file_valid (Some held) name path table is = held_valid name (bytes_at held path) table is

new_valid : (files : Option Files) (word : TableWord) (among : Bool) (table : TableData)
    → (if among then faulty (file_fault word.name 512) else and_then (file_stage files word.path) (table_of_bytes word.name)) ≡ ready table → IsTable table
new_valid files word true table is = absurd (cc)
new_valid files word false table is = file_valid files word.name word.path table is

-- ---- all tables

abbrev IsNamed : TableWord → Type 0
IsNamed word = IsName word.name

-- a table that is opened makes the set one larger
set_more : (files : Option Files) (tables : Tables) (word : TableWord) (table : TableData) → IsTableSet tables → IsName word.name → length tables < 8
    → table_stage files (table_names tables) word ≡ ready table → IsTableSet (tables ++ record { name = word.name; table = table } ∷ [])
set_more files tables word table valid named room is =
    let gives : MayGive (table_stage files (table_names tables) word) table = subst (λ s. MayGive s table) (sym is) refl in
    IsTableSet-push tables word.name table valid named (new_valid files word (is_among (table_names tables) word.name) table is) (omega (arith, room))
    (opened_name files tables word word.name table gives refl)

step_valid : (s : Stage TableData) (next : TableData → Stage Tables) (end : Tables) → ((table : TableData) → s ≡ ready table → next table ≡ ready end → IsTableSet end) → and_then s next ≡ ready end → IsTableSet end
step_valid untold next end valid is = absurd (cc)
step_valid barred next end valid is = absurd (cc)
step_valid unaccepted next end valid is = absurd (cc)
step_valid missing next end valid is = absurd (cc)
step_valid (faulty fault) next end valid is = absurd (cc)
step_valid (ready table) next end valid is = valid table refl is

after_valid : (files : Option Files) (tables : Tables) (words : List TableWord) (end : Tables) → IsTableSet tables → All IsNamed words → length tables + length words ≤ 8
    → tables_after files tables words ≡ ready end → IsTableSet end
after_valid files tables [] end valid named few is = let same : tables ≡ end = cc in subst IsTableSet same valid
after_valid files tables (word ∷ words) end valid named few is =
    step_valid (table_stage files (table_names tables) word) (λ table. tables_after files (tables ++ record { name = word.name; table = table } ∷ []) words) end
    (λ table from rest.
    let entry : NamedTable = record { name = word.name; table = table } in
    after_valid files (tables ++ entry ∷ []) words end
    (set_more files tables word table valid (All-head IsNamed word words named) (omega (arith, few)) from)
    (All-tail IsNamed word words named)
    (omega (arith, few, length_push tables entry))
    rest)
    is

no_tables : IsTableSet []
no_tables = record {
  names = All-nil IsName;
  differ = λ i j d lt below. absurd (omega arith);
  all_valid = All-nil (λ (named : NamedTable). IsTable named.table);
  few = omega arith;
}

unbarred : (bars : Bool) (s : Stage Tables) (end : Tables) → barred_if bars s ≡ ready end → s ≡ ready end
unbarred false s end is = sym (barred_if-false s) ∙ is
unbarred true untold end is = absurd (cc)
unbarred true barred end is = absurd (cc)
unbarred true unaccepted end is = absurd (cc)
unbarred true missing end is = absurd (cc)
unbarred true (faulty fault) end is = absurd (cc)
unbarred true (ready found) end is = is

stage_valid : (files : Option Files) (words : List TableWord) (end : Tables) → AreNamed words → tables_stage files words ≡ ready end → IsTableSet end
stage_valid files words end are is =
    after_valid files [] words end no_tables are.named (omega (arith, are.few)) (unbarred (has_repeated [] words) (tables_after files [] words) end is)

-- ---- the opening

tables_same : (task other : Task) (found tables : Tables) → (let stage : Stage Job = ready (over other found) in stage) ≡ ready (over task tables) → found ≡ tables
tables_same task other found tables is = ap (λ (s : Stage Job). of_stage s) is
  where
    of_job : Job → Tables
    of_job (over other tables) = tables
    of_job (bench_of count) = found

    of_stage : Stage Job → Tables
    of_stage (ready job) = of_job job
    of_stage other = found

over_valid : (s : Stage Tables) (task other : Task) (tables : Tables) → ((found : Tables) → s ≡ ready found → IsTableSet found)
    → and_then s (λ found. ready (over other found)) ≡ ready (over task tables) → IsTableSet tables
over_valid untold task other tables valid is = absurd (cc)
over_valid barred task other tables valid is = absurd (cc)
over_valid unaccepted task other tables valid is = absurd (cc)
over_valid missing task other tables valid is = absurd (cc)
over_valid (faulty fault) task other tables valid is = absurd (cc)
over_valid (ready found) task other tables valid is = subst IsTableSet (tables_same task other found tables is) (valid found refl)

job_valid : (files : Option Files) (command : Command) (task : Task) (tables : Tables) → IsNamedCommand command → job_stage files command ≡ ready (over task tables) → IsTableSet tables
job_valid files (OnScript other words) task tables are is = over_valid (tables_stage files words) task other tables (λ found. stage_valid files words found are) is
job_valid files (Bench count) task tables are is = absurd (let nope : ⊥ = cc in nope)

accepted_valid : (files : Option Files) (o : Option Command) (task : Task) (tables : Tables) → ((command : Command) → o ≡ Some command → IsNamedCommand command)
    → and_then (ready_or unaccepted o) (job_stage files) ≡ ready (over task tables) → IsTableSet tables
accepted_valid files None task tables named is = absurd (cc)
accepted_valid files (Some command) task tables named is = job_valid files command task tables (named command refl) is

pub opening_valid : (words : List (List ℕ)) (files : Option Files) (task : Task) (tables : Tables) → opening words files ≡ ready (over task tables) → IsTableSet tables
opening_valid words files task tables is = accepted_valid files (accepted words) task tables (accepted_named words) is

-- ---- what is told

told_then : {T U : Type 0} (s : Stage T) (next : T → Stage U) → IsTold s → ((value : T) → IsTold (next value)) → IsTold (and_then s next)
told_then untold next told later = absurd told
told_then barred next told later = absurd told
told_then unaccepted next told later = tt
told_then missing next told later = tt
told_then (faulty fault) next told later = tt
told_then (ready value) next told later = later value

told_barred : {T : Type 0} (bars : Bool) (s : Stage T) → IsTold s → IsTold (barred_if bars s)
told_barred false s told = subst IsTold (sym (barred_if-false s)) told
told_barred true untold told = absurd told
told_barred true barred told = absurd told
told_barred true unaccepted told = tt
told_barred true missing told = tt
told_barred true (faulty fault) told = tt
told_barred true (ready value) told = tt

told_after : (files : Option Files) (tables : Tables) (words : List TableWord) → IsSome files → IsTold (tables_after files tables words)
told_after files tables [] known = tt
told_after files tables (word ∷ words) known =
    told_then (table_stage files (table_names tables) word) (λ table. tables_after files (tables ++ record { name = word.name; table = table } ∷ []) words)
    (told_stage files (table_names tables) word known)
    (λ table. told_after files (tables ++ record { name = word.name; table = table } ∷ []) words known)

told_job : (files : Option Files) (command : Command) → IsSome files → IsTold (job_stage files command)
told_job files (OnScript task words) known =
    told_then (tables_stage files words) (λ tables. ready (over task tables)) (told_barred (has_repeated [] words) (tables_after files [] words) (told_after files [] words known)) (λ tables. tt)
told_job files (Bench count) known = tt

told_words : (files : Option Files) (o : Option Command) → IsSome files → IsTold (and_then (ready_or unaccepted o) (job_stage files))
told_words files None known = tt
told_words files (Some command) known = told_job files command known

pub told_opening : (words : List (List ℕ)) (files : Option Files) → IsSome files → IsTold (opening words files)
told_opening words files known = told_words files (accepted words) known
